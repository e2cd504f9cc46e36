-- `memory::buffer::put` meets its contract: the place behind the last message lies in the list's last frame, and the part lent to the writer starts there. Assumes nothing.
use Prim.Native.Nat.{◌+◌, ◌-◌, ◌<◌, ◌≤◌, ℕ}
use native.Mathlib.Omega.{arith}
use mathlib.Core.List.{List, ◌∷◌}
use mathlib.Core.Path.{◌∙◌, ◌≡◌, ap, refl, sym}
use lib.ListN.{length, length-drop, length-take}
use borrow.Rule.Slice.PartMut.{put_mid}
use Rattle.rules.specs.Build.{page_count, paper01, word_limit}
use Rattle.rules.specs.Memory.{count_offset, frame_address, group_stride, place_words, size}
use Rattle.rules.specs.Node.{Message, place_of}
use Rattle.rules.proofs.Steps.ListLaws.{length-pad}
use Rattle.memory.specs.Holds.{Kept}
use Rattle.memory.specs.Writes.{InGroup, Wrote}
use Rattle.memory.proofs.buffer.AppendLaws.{Ends, ends, last_frame, room-end}
use Rattle.memory.proofs.buffer.PutLaws.{end_place, putting-kept}
use Rattle.memory.proofs.WriteLaws.{length-part, wrote_as, wrote_at, wrote-part}
use Rattle.memory.proofs.buffer.put.Goals as goal
use Rattle.memory.proofs.buffer.put.Lts as lts
use Rattle.memory.proofs.buffer.put.Tie as tie
use Rattle.memory.proofs.buffer.put.Reads as past

-- The places of the code that lemmas speak of.

abbrev After-group_word : Type 0
After-group_word = lts.After-group_word tie.the-claims past.Pre past.Post tie.handed_clauses

abbrev After-place_at : Type 0
After-place_at = lts.After-place_at tie.the-claims past.Pre past.Post tie.handed_clauses

abbrev After-put_message : Type 0
After-put_message = lts.After-put_message tie.the-claims past.Pre past.Post tie.handed_clauses

abbrev After-read : Type 0
After-read = lts.After-read tie.the-claims past.Pre past.Post tie.handed_clauses

abbrev Start : Type 0
Start = lts.Start tie.the-claims past.Pre past.Post tie.handed_clauses

facts : (c : Start) → Ends c.args.m.now c.args.g
facts c = ends c.requires.some.holds c.args.g c.requires.le_g.0 c.requires.le_g.1 (let room = c.requires.some.fact in omega arith)

in_group : (c : Start) (m : List ℕ) (k : ℕ) → length m ≡ length c.args.m.now → k < group_stride → InGroup m c.args.g k
in_group c m k l h = record { long = omega (arith, (facts c).long); low = c.requires.le_g.0; high = c.requires.le_g.1; inside = h }

-- the end of the buffer is one of its places
below : (c : After-read) → c.read-x.result.used + c.read-x.result.count < 768
below c = rw c.read-x.ensures (room-end c.requires.some.holds c.args.g c.requires.le_g.0 c.requires.le_g.1 c.requires.some.fact)

-- in one of the pages
last-below : (c : After-group_word) → c.group_word-last.result < page_count paper01
last-below c =
    rw (c.group_word-last.ensures, c.read-x.ensures) (last_frame c.requires.some.holds c.args.g c.requires.le_g.0 c.requires.le_g.1 c.requires.some.fact)

inside : (c : After-place_at) → c.place_at-at.result + 9 ≤ size
unfolding frame_address
inside c = let l = last-below c.before in omega (arith, c.place_at-at.ensures)

at-end : (c : After-place_at) → c.place_at-at.result ≡ end_place c.args.m.now c.args.g
at-end c = c.place_at-at.ensures ∙ rw (c.group_word-last.ensures, c.read-x.ensures)

-- what is written of the message
wrote : (c : After-put_message) → length c.args.message.words ≡ 8
    → Wrote c.args.m.now
    (put_mid c.place_at-at.result (length c.args.m.now - c.place_at-at.result) c.args.m.now c.put_message.new.part)
    (end_place c.args.m.now c.args.g) (c.args.message.len ∷ c.args.message.words)
wrote c fits =
    let l = inside c.before.before in
    let f = facts c.before.before.before.before.before.before.before in
    wrote_at (wrote-part c.args.m.now c.put_message.new.part c.place_at-at.result
    (length c.args.m.now - c.place_at-at.result) (c.args.message.len ∷ c.args.message.words) (omega arith) (simp (length-take, length-drop) (omega arith)) c.put_message.ensures)
    (at-end c.before.before)

-- a message is kept by eight words
kept-length : {g len : ℕ} {ws : List ℕ} {x : Message} → Kept g len ws x → length ws ≡ 8
unfolding place_words place_of
kept-length {x = x} k = omega (arith, ap length k.words, length-pad word_limit x.words)

pub read-x-requires : goal.read-x-requires
read-x-requires c = in_group c.before _ count_offset refl (omega arith)

pub overflow_add-end : goal.overflow_add-end
overflow_add-end c = let b = below c.before in omega arith

pub group_word-last-requires : goal.group_word-last-requires
group_word-last-requires c = let b = below c.before in in_group c.before.before.before _ _ refl (omega arith)

pub place_at-at-requires : goal.place_at-at-requires
place_at-at-requires c = (last-below c, omega arith)

pub offset_bounds-m-at : goal.offset_bounds-m-at
offset_bounds-m-at c = let w = inside c in omega arith

pub slice_bounds-put_message-count : goal.slice_bounds-put_message-count
slice_bounds-put_message-count c = let w = inside c in let f = facts c.before.before.before.before.before in omega arith

pub slice_bounds-put_message-start : goal.slice_bounds-put_message-start
slice_bounds-put_message-start c = let w = inside c in let f = facts c.before.before.before.before.before in omega arith

pub put_message-requires : goal.put_message-requires
put_message-requires c = let w = inside c.before in let f = facts c.before.before.before.before.before.before in simp (length-take, length-drop) (omega arith)

pub overflow_add-x : goal.overflow_add-x
overflow_add-x c = let b = below c.before.before.before.before.before.before.before.before.before in omega arith

pub set_counts-requires : goal.set_counts-requires
set_counts-requires c =
    in_group c.before.before.before.before.before.before.before.before.before.before.before _ count_offset
    (length-part c.args.m.now c.put_message.new.part c.place_at-at.result (length c.args.m.now - c.place_at-at.result) c.put_message.ensures.same_length) (omega arith)

pub returns : goal.returns
returns c x kept n r h room =
    let l : length c.args.message.words ≡ 8 = kept-length kept in
    let w = wrote c.before.before.before.before.before.before.before.before l in
    putting-kept h x c.args.g kept.group c.requires.le_g.0 c.requires.le_g.1 room (wrote_as w (sym kept.words))
    (rw c.read-x.ensures at c.set_counts.ensures)
