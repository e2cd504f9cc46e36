-- `memory::buffer::wipe_first` meets its contract: the first message's place is behind the used-up ones of the list's first page. Assumes
-- nothing.
use Prim.Native.Nat.{◌+◌, ◌*◌, ◌<◌, ◌≤◌, ℕ}
use native.Mathlib.Omega.{arith}
use mathlib.Core.List.{List}
use mathlib.Core.Path.{◌∙◌, ◌≡◌, refl}
use lib.ListN.{length}
use Rattle.rules.specs.Build.{page_count, paper01}
use Rattle.rules.specs.Memory.{frame_address, group_stride, list_offset, place_stride, used_offset}
use Rattle.memory.specs.Writes.{InGroup}
use Rattle.memory.proofs.buffer.FreeLaws.{Reads, reads}
use Rattle.memory.proofs.buffer.WipeLaws.{first-place, first_at, wiping-held}
use Rattle.memory.proofs.WriteLaws.{wrote_at}
use Rattle.memory.proofs.buffer.wipe_first.Goals as goal
use Rattle.memory.proofs.buffer.wipe_first.Lts as lts
use Rattle.memory.proofs.buffer.wipe_first.Tie as tie
use Rattle.memory.proofs.buffer.wipe_first.Reads as past

-- The places of the code that lemmas speak of.

abbrev After-group_word2 : Type 0
After-group_word2 = lts.After-group_word2 tie.the-claims past.Pre past.Post tie.handed_clauses

abbrev After-place_at : Type 0
After-place_at = lts.After-place_at tie.the-claims past.Pre past.Post tie.handed_clauses

abbrev Start : Type 0
Start = lts.Start tie.the-claims past.Pre past.Post tie.handed_clauses

facts : (c : Start) → Reads c.args.m.now c.args.g
facts c = reads c.requires.some.holds c.args.g c.requires.le_g.0 c.requires.le_g.1 c.requires.some.fact

in_group : (c : Start) (m : List ℕ) (k : ℕ) → length m ≡ length c.args.m.now → k < group_stride → InGroup m c.args.g k
in_group c m k l h = record { long = omega (arith, (facts c).long); low = c.requires.le_g.0; high = c.requires.le_g.1; inside = h }

-- The place, as it is read.

abbrev start : After-group_word2 → Start
start c = c.before.before.before

placed : (c : After-group_word2) → (c.group_word-first.result < page_count paper01) × (c.group_word-used.result < paper01.per_frame)
placed c =
    let s = start c in
    rw (c.group_word-first.ensures, c.group_word-used.ensures) (first-place s.requires.some.holds s.args.g s.requires.le_g.0 s.requires.le_g.1 s.requires.some.fact)

at_first : (c : After-place_at) → c.place_at-at.result ≡ first_at (start c.before).args.m.now (start c.before).args.g
at_first c = c.place_at-at.ensures ∙ λ i. frame_address (c.group_word-first.ensures i) + place_stride * c.group_word-used.ensures i

inside : (c : After-place_at) → c.place_at-at.result + 9 ≤ length (start c.before).args.m.now
unfolding frame_address
inside c = let p = placed c.before in let f = facts (start c.before) in omega (arith, c.place_at-at.ensures)

pub group_word-first-requires : goal.group_word-first-requires
group_word-first-requires c = in_group c.before _ list_offset refl (omega arith)

pub group_word-used-requires : goal.group_word-used-requires
group_word-used-requires c = in_group c.before.before _ used_offset refl (omega arith)

pub place_at-at-requires : goal.place_at-at-requires
place_at-at-requires c = placed c

pub clear-requires : goal.clear-requires
clear-requires c = inside c.before

pub returns : goal.returns
returns c n r h waits =
    let s = start c.before.before.before.before.before.before in
    wiping-held h s.args.g s.requires.le_g.0 s.requires.le_g.1 waits (wrote_at c.clear.ensures (at_first c.before.before.before.before.before))
