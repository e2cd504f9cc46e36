-- `node::network::pledge_of` meets its contract: h and n are read from the group's record, the messages in the queue are counted, and the
-- one more is counted where it is of this group. Assumes nothing.
use Prim.Native.Nat.{ℕ, ◌+◌, ◌≤◌, ◌<◌}
use native.Mathlib.Omega.{arith}
use mathlib.Core.Path.{sym, ap, ◌∙◌}
use Rattle.rules.specs.Build.{paper01}
use Rattle.rules.specs.Frames.{ceil_div}
use Rattle.rules.specs.Memory.{count_offset, group_stride, used_offset}
use Rattle.rules.proofs.Steps.FrameLaws.{fits}
use Rattle.rules.proofs.Steps.NodeLaws.{group-good}
use Rattle.memory.specs.Writes.{InGroup}
use Rattle.memory.proofs.buffer.AppendLaws.{Ends, ends}
use Rattle.node.proofs.network.PledgeLaws.{queued-other, queued-same}
use Rattle.node.proofs.network.PledgeReads.{pledge-read, queue-few}
use Rattle.node.proofs.network.pledge_of.Goals as goal
use Rattle.node.proofs.network.pledge_of.Goals.{else-i-g, then-i-g}
use Rattle.node.proofs.network.pledge_of.Lts as lts
use Rattle.node.proofs.network.pledge_of.Tie as tie
use Rattle.node.proofs.network.pledge_of.Reads as past

-- The places of the code that lemmas speak of.

abbrev After-queued_of : Type 0
After-queued_of = lts.After-queued_of tie.the-claims past.Pre past.Post tie.handed_clauses

abbrev Joined1 : Type 0
Joined1 = lts.Joined1 tie.the-claims past.Pre past.Post tie.handed_clauses

abbrev Start : Type 0
Start = lts.Start tie.the-claims past.Pre past.Post tie.handed_clauses

facts : (c : Start) → Ends c.args.m.now c.args.i
facts c =
    let p = c.requires.some in
    let g = c.args.i in
    ends p.holds g c.requires.le_i.0 c.requires.le_i.1 (fits (group-good p.fact g c.requires.le_i.0 c.requires.le_i.1).buffer)

in_group : (c : Start) (k : ℕ) → k < group_stride → InGroup c.args.m.now c.args.i k
in_group c k h = record { long = (facts c).long; low = c.requires.le_i.0; high = c.requires.le_i.1; inside = h }

-- what is counted in the queue is small
few : (c : After-queued_of) → c.queued_of-k.result ≤ 16
few c = let p = c.requires.some in omega (arith, c.queued_of-k.ensures p.node p.rest p.holds, queue-few p.holds c.args.i)

-- and so is all that waits, where the arms meet
small : (c : Joined1) → c.group_word.result + c.group_word-2.result + c.if-i-g.k ≤ 785
small c =
    let f = facts c.before.before.before.before.before in
    let q = few c.before in
    let e = c.group_word.ensures in
    let e₂ = c.group_word-2.ensures in
    elim c.if-i-g.branch [ then-i-g w ↦ omega arith | else-i-g w ↦ omega arith ]

pub group_word-requires : goal.group_word-requires
group_word-requires c = in_group c.before.before used_offset (omega arith)

pub group_word-requires-2 : goal.group_word-requires-2
group_word-requires-2 c = in_group c.before.before.before count_offset (omega arith)

pub overflow_add-end : goal.overflow_add-end
overflow_add-end c = let f = facts c.before.before.before.before in omega (arith, c.group_word-2.ensures, c.group_word.ensures)

pub overflow_add-k : goal.overflow_add-k
overflow_add-k c = omega (arith, few c.before.before)

pub overflow_add-end-2 : goal.overflow_add-end-2
overflow_add-end-2 c = omega (arith, small c.before.before)

pub frames_for-requires : goal.frames_for-requires
frames_for-requires c = omega (arith, small c.before.before)

pub returns : goal.returns
returns c n r h x e =
    let g = c.args.i in
    let read = pledge-read h g c.requires.le_i.0 c.requires.le_i.1 x in
    let q = c.queued_of-k.ensures n r h in
    c.frames_for.ensures
    ∙ ap (λ (a : ℕ). ceil_div a paper01.per_frame) (omega (arith, c.group_word-2.ensures, c.group_word.ensures))
    ∙ read c.if-i-g.k
    (elim c.if-i-g.branch [ then-i-g w ↦ omega (arith, queued-same n x g (e ∙ sym w.if-i-g.true)) | else-i-g w ↦ omega (arith, queued-other n x g (λ f. w.if-i-g.false (sym f ∙ e))) ])
