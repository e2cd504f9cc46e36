-- A message is put at the end of a buffer, after a frame is taken where there is no room. Assumes nothing.
use Prim.Native.Nat.{◌*◌, ◌+◌, ◌/◌, ◌<◌, ◌≤◌, pred, ℕ}
use native.Mathlib.Omega.{arith}
use mathlib.Core.List.{List, [], ◌∷◌}
use mathlib.Core.Path.{◌∙◌, ◌≡◌, ap, sym}
use lib.ListN.{get_or, length, length-append, set}
use lib.Seq.{get_or-set_same, set-set}
use borrow.Author.Tests.{le-ltb, lt-ltb}
use Rattle.rules.specs.Build.{group_count, page_count, paper01}
use Rattle.rules.specs.Frames.{appended, extended, put, take_frame, with_room, with_stock}
use Rattle.rules.specs.Memory.{group_address, size, word, used_offset, count_offset, held_offset, list_offset}
use Rattle.rules.specs.Node.{Message, Node, empty_group, group_of, with_buffer, with_entered, with_free, with_group, with_paging, empty_page}
use Rattle.rules.proofs.Steps.FrameLaws.{length-page}
use Rattle.rules.proofs.Steps.NodeLaws.{stock-same}
use Rattle.rules.specs.Sound.{Mapped}
use Rattle.memory.specs.Holds.{FrameLeft, Holds, Room, Storable, putting, taking}
use Rattle.memory.proofs.CountLaws.{its-bounded, lists-short}
use Rattle.memory.proofs.group.GroupLaws.{group-whole, group-words, listed}
use Rattle.memory.proofs.PieceLaws.{holds-pieces}

-- the end of group g's buffer, as it is read from memory
pub record Ends (m : List ℕ) (g : ℕ) : Type 0 where
  pub long : size ≤ length m
  pub end : word m (group_address g + used_offset) + word m (group_address g + count_offset) ≤ 768
  pub held : word m (group_address g + held_offset) ≤ 96

pub ends : {m : List ℕ} {n : Node} {r : List ℕ} → Holds m n r → (g : ℕ) → 1 ≤ g → g ≤ group_count
    → (group_of n g).buffer.used + (group_of n g).buffer.count ≤ length (group_of n g).buffer.places → Ends m g
ends h g low high fits =
    let p = holds-pieces h in
    let v = h.mapped in
    let words = group-words p v g low high in
    let whole = group-whole v g low high in
    let short = lists-short v g low high in
    record { long = p.long; end = omega (arith, words.used, words.count, whole.whole); held = omega (arith, words.held) }

-- with room, it is one of 768 places
pub room-end : {m : List ℕ} {n : Node} {r : List ℕ} → Holds m n r → (g : ℕ) → 1 ≤ g → g ≤ group_count → Room g n
    → word m (group_address g + used_offset) + word m (group_address g + count_offset) < 768
room-end h g low high room =
    let words = group-words (holds-pieces h) h.mapped g low high in
    omega (arith, words.used, words.count, (group-whole h.mapped g low high).whole, lists-short h.mapped g low high)

-- the page of the place behind the last message
pub last_frame : {m : List ℕ} {n : Node} {r : List ℕ} → Holds m n r → (g : ℕ) → 1 ≤ g → g ≤ group_count → Room g n
    → word m (group_address g + (list_offset + (word m (group_address g + used_offset) + word m (group_address g + count_offset)) / 8)) < page_count paper01
last_frame {m} {n} h g low high room =
    let p = holds-pieces h in
    let v = h.mapped in
    let words = group-words p v g low high in
    let whole = group-whole v g low high in
    let B = (group_of n g).buffer in
    let end = B.used + B.count in
    let inside : end / 8 < length B.frames = omega (arith, whole.whole) in
    let at : word m (group_address g + used_offset) + word m (group_address g + count_offset) ≡ end = cc (words.used, words.count) in
    rw (at, listed m (group_address g) B.frames (end / 8) inside words.list) (its-bounded v g low high (end / 8) inside)

-- whether there is room is read from the counts
pub full-read : {m : List ℕ} {n : Node} {r : List ℕ} → Holds m n r → (g : ℕ) → 1 ≤ g → g ≤ group_count
    → (8 * word m (group_address g + held_offset) ≡ length (group_of n g).buffer.places)
    × (word m (group_address g + used_offset) + word m (group_address g + count_offset) ≡ (group_of n g).buffer.used + (group_of n g).buffer.count)
full-read h g low high =
    let words = group-words (holds-pieces h) h.mapped g low high in
    (omega (arith, words.held, (group-whole h.mapped g low high).whole), cc (words.used, words.count))

module _ {n : Node} (v : Mapped n) (x : Message) (low : 1 ≤ x.group) (high : x.group ≤ group_count) where
  -- with room
  pub put-room : Room x.group n → put paper01 x n ≡ putting x n
  unfolding put putting with_room with_stock with_group with_free with_paging with_entered group_of
  put-room room = rw (lt-ltb _ _ room)

  -- and without
  pub put_full : length (group_of n x.group).buffer.places ≤ (group_of n x.group).buffer.used + (group_of n x.group).buffer.count
      → put paper01 x n ≡ putting x (taking x.group n)
  unfolding put putting taking with_room with_stock with_group with_free with_paging with_entered with_buffer group_of
  put_full full =
      let g = x.group in
      let s = take_frame paper01 n.free n.paging.entered (group_of n g).buffer in
      let G = with_buffer s.buffer (group_of n g) in
      let same : get_or (set n.groups (pred g) G) (pred g) empty_group ≡ G =
      get_or-set_same n.groups (pred g) G empty_group (omega (arith, v.group-count)) in
      let over : set (set n.groups (pred g) G) (pred g) (with_buffer (appended x s.buffer) G) ≡ set n.groups (pred g) (with_buffer (appended x s.buffer) (group_of n g)) =
      set-set n.groups (pred g) G (with_buffer (appended x s.buffer) G) in
      rw (le-ltb _ _ full, same, over)

-- a frame taken makes room
pub taking-room : {n : Node} → Mapped n → (g : ℕ) → 1 ≤ g → g ≤ group_count → FrameLeft n
    → (group_of n g).buffer.used + (group_of n g).buffer.count ≤ length (group_of n g).buffer.places → Room g (taking g n)
unfolding taking take_frame extended
taking-room {n} v g low high left fits =
    let inside : pred g < length n.groups = omega (arith, v.group-count) in
    rw (stock-same g (take_frame paper01 n.free n.paging.entered (group_of n g).buffer) n inside) (go n.free left.some)
  where
    go : (fs : List ℕ) → 1 ≤ length fs
        → (take_frame paper01 fs n.paging.entered (group_of n g).buffer).buffer.used + (take_frame paper01 fs n.paging.entered (group_of n g).buffer).buffer.count
        < length (take_frame paper01 fs n.paging.entered (group_of n g).buffer).buffer.places
    go [] some = absurd (omega arith)
    go (f ∷ fs) some = omega (arith, length-append (group_of n g).buffer.places (empty_page paper01), length-page paper01)

-- what stands where the frame was taken if need be: a node with room, of which putting is what the rules put
pub record Ready (m : List ℕ) (g : ℕ) (n : Node) (r : List ℕ) : Type 0 where
  pub node : Node
  pub holds : Holds m node r
  pub room : Room g node
  pub stores : (x : Message) → x.group ≡ g → putting x node ≡ put paper01 x n

module _ {m : List ℕ} {n : Node} {r : List ℕ} (h : Holds m n r) (g : ℕ) (low : 1 ≤ g) (high : g ≤ group_count) (fit : Storable g n) where
  -- there was room
  pub ready-room : word m (group_address g + used_offset) + word m (group_address g + count_offset) < 8 * word m (group_address g + held_offset) → Ready m g n r
  ready-room less =
      let read = full-read h g low high in
      let room : Room g n = omega (arith, read.0, read.1) in
      record {
        node = n;
        holds = h;
        room = room;
        stores = λ x e. sym (put-room h.mapped x (rw e low) (rw e high) (rw e room));
      }

  -- a full buffer is left a frame
  pub full-left : 8 * word m (group_address g + held_offset) ≤ word m (group_address g + used_offset) + word m (group_address g + count_offset) → FrameLeft n
  full-left full = let read = full-read h g low high in fit.1 (omega (arith, read.0, read.1))

  -- and has taken it
  pub ready-taken : {m' : List ℕ} → 8 * word m (group_address g + held_offset) ≤ word m (group_address g + used_offset) + word m (group_address g + count_offset)
      → Holds m' (taking g n) r → Ready m' g n r
  ready-taken full h' =
      let read = full-read h g low high in
      let is-full : length (group_of n g).buffer.places ≤ (group_of n g).buffer.used + (group_of n g).buffer.count = omega (arith, read.0, read.1) in
      record {
        node = taking g n;
        holds = h';
        room = taking-room h.mapped g low high (full-left full) fit.0;
        stores = λ x e. sym (put_full h.mapped x (rw e low) (rw e high) (rw e is-full) ∙ ap (λ (k : ℕ). putting x (taking k n)) e);
      }
