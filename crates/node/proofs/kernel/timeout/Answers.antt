-- `node::kernel::timeout` meets its contract: drained, revoked, and the timer set. Assumes nothing.
use Prim.Native.Nat.{ℕ}
use native.Mathlib.Omega.{arith}
use mathlib.Core.List.{List, [], ◌∷◌}
use mathlib.Core.Path.{ap}
use lib.ListN.{set}
use Rattle.rules.specs.Build.{paper01}
use Rattle.rules.specs.Memory.{timer_at}
use Rattle.rules.specs.Node.{Node}
use Rattle.std.specs.Prelude.{Some}
use Rattle.rules.specs.declared.Trap.TheVariants.{TimedOut}
use Rattle.rules.specs.Settling.{drain}
use Rattle.memory.specs.Holds.{Holds}
use Rattle.memory.proofs.PieceLaws.{holds-pieces}
use Rattle.memory.proofs.PieceWrites.{timer-held}
use Rattle.memory.proofs.WriteLaws.{wrote_as, wrote-set}
use Rattle.node.specs.Steps.{Ticking, late, rest, unsettled}
use Rattle.node.proofs.kernel.KernelLaws.{drained-ticking}
use Rattle.node.proofs.kernel.timeout.Goals as goal
use Rattle.node.proofs.kernel.timeout.Lts as lts
use Rattle.node.proofs.kernel.timeout.Tie as tie
use Rattle.node.proofs.kernel.timeout.Reads as past

-- The places of the code that lemmas speak of.

abbrev After-revoke : Type 0
After-revoke = lts.After-revoke tie.the-claims past.Pre past.Post

-- the node with what is left over on its timer
held : (c : After-revoke) (n : Node) (r : List ℕ) → Holds c.args.m.now n r → Ticking n
    → Holds (set c.revoke.new.m timer_at c.left_over-left.result) (late c.args.t n).node r
held c n r h t =
    let k = c.revoke.ensures (drain paper01 n.queue n) r (c.drain-moved.ensures n r h t.sound).holds (drained-ticking t) in
    let e = c.left_over-left.ensures n r h t.sound in
    timer-held k (rest c.args.t n) (wrote_as (wrote-set c.revoke.new.m timer_at c.left_over-left.result (omega (arith, (holds-pieces k).long))) (ap (λ (x : ℕ). x ∷ []) e))

pub revoke-requires : goal.revoke-requires
revoke-requires c = let p = c.requires in record { node = _; rest = p.rest; holds = (c.drain-moved.ensures p.node p.rest p.holds p.fact.sound).holds; fact = drained-ticking p.fact }

pub bounds-m-1 : goal.bounds-m-1
bounds-m-1 c =
    let p = c.requires in
    let d = c.drain-moved.ensures p.node p.rest p.holds p.fact.sound in
    omega (arith, (holds-pieces (c.revoke.ensures _ p.rest d.holds (drained-ticking p.fact))).long)

pub returns : goal.returns
returns c n r h t =
    record {
      told = ap (unsettled (Some TimedOut)) (c.drain-moved.ensures n r h t.sound).count;
      holds = held c.before.before n r h t;
    }
