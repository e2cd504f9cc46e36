-- Frames and buffers. A count of frames rounded up is told by two inequalities, enough and the least that is, so that no later proof
-- divides. Storing finds room or takes a frame, and puts the message behind the waiting ones; removing uses up the first place or frees the
-- first frame. Either way the buffer stays good, its places but the waiting ones wiped, and each frame stands as often as it did, in the free
-- line and the buffer's list together, which is said for any weight of frames. Assumes nothing.
use Prim.Native.Nat.{ℕ, ◌+◌, ◌-◌, ◌*◌, ◌≤◌, ◌<◌}
use mathlib.Core.Path.{◌≡◌, refl, sym, ap, ◌∙◌}
use mathlib.Core.Logic.{◌≢◌}
use mathlib.Core.Bool.{Bool, true, false, cond, not, ◌||◌}
use mathlib.Core.List.{List, [], ◌∷◌, ◌++◌}
use native.Mathlib.Nat.{not-suc-le-zero, add-suc, lt-div-mul-add, div-mul-le_self, div-eq_of_lt-le, lt_of_mul-lt-mul_right}
use native.Mathlib.Numerals.{add-one}
use native.Mathlib.Decide.{ℕ_discrete}
use native.Mathlib.Omega.{arith}
use lib.Dec.{ltb, eqb}
use lib.ListN.{length, take, drop, get_or, set, replicate, length-append, length-set, length-drop, length-take, length-replicate}
use lib.Seq.{drop-drop, take-append-le, drop-append-le, take-set-le, drop-set-lt, take-suc-set}
use borrow.Author.Tests.{ltb-true, ltb-false, eqb-true, eqb-false, eq-eqb, ne_eqb}
use Rattle.rules.specs.Lists.{Every, count_of}
use Rattle.rules.specs.Build.{Build, word_limit}
use Rattle.rules.specs.Node.{Message, Place, Buffer, empty_place, empty_page, place_of, waiting, unused}
use Rattle.rules.specs.Frames.{Stock, ceil_div, extended, take_frame, with_room, appended, first_frame, without, free_first, use_up, remove_first}
use Rattle.rules.specs.Valid.{GoodMessage, GoodPlace, GoodWaiting, Wiped, GoodBuffer, Zero}
use Rattle.rules.proofs.Steps.EveryLaws.{every_append, every_set, every_drop, every-replicate, every-same}
use Rattle.rules.proofs.Steps.ListLaws.{filter-pass, filter-fail, take-drop, weight, weight-append, length-pad, drop-pad}

-- a frame count, rounded up, suffices
pub ceil-enough : (a d : ℕ) → 1 ≤ d → a ≤ ceil_div a d * d
unfolding ceil_div
ceil-enough a d some = omega (arith, lt-div-mul-add {a = a + (d - 1)} some)

-- and is the least that does
pub ceil-least : (a d : ℕ) → 1 ≤ d → ceil_div a d * d < a + d
unfolding ceil_div
ceil-least a d some = omega (arith, div-mul-le_self (a + (d - 1)) d)

-- nothing else is both
pub ceil-unique : (a d c : ℕ) → a ≤ c * d → c * d < a + d → c ≡ ceil_div a d
unfolding ceil_div
ceil-unique a d c enough least = sym (div-eq_of_lt-le {k = c} d (omega arith) (omega arith))

-- more messages want no fewer frames
pub ceil-mono : (a a' d : ℕ) → 1 ≤ d → a ≤ a' → ceil_div a d ≤ ceil_div a' d
ceil-mono a a' d some le =
    omega (arith, lt_of_mul-lt-mul_right d {m = ceil_div a d} {n = ceil_div a' d + 1} (omega (arith, ceil-least a d some, ceil-enough a' d some)))

-- no frames for no messages
pub ceil-none : (d : ℕ) → 1 ≤ d → 0 ≡ ceil_div 0 d
ceil-none d some = ceil-unique 0 d 0 (omega arith) (omega arith)

-- some messages want some frame
ceil-some : (a d : ℕ) → 1 ≤ d → 1 ≤ a → 1 ≤ ceil_div a d
ceil-some a d some more = omega (arith, ceil-mono 1 a d some more, ceil-unique 1 d 1 (omega arith) (omega arith))

-- the frames of a free line and of a buffer's list, together, weigh what they weighed, whatever each weighs: none is lost or doubled
abbrev pub SameFrames : List ℕ → List ℕ → List ℕ → List ℕ → Type 0
SameFrames fs l fs' l' = (w : ℕ → ℕ) → weight w fs + weight w l ≡ weight w fs' + weight w l'

-- frames go between a free line and a buffer, which stays good
pub record Traded (b : Build) (fs : List ℕ) (v : Buffer) (t : Stock) : Type 0 where
  pub good : GoodBuffer b t.buffer
  pub weights : SameFrames t.free t.buffer.frames fs v.frames

-- the waiting messages of a good buffer lie within its places
pub fits : {b : Build} {v : Buffer} → GoodBuffer b v → v.used + v.count ≤ length v.places
fits {b} {v} g = omega (arith, rw g.list_length at g.whole, ceil-enough (v.used + v.count) b.per_frame (omega arith))

-- as waiting messages are read: the places up to the last of them, without the used-up ones
waiting-front : (v : Buffer) → waiting v ≡ drop v.used (take (v.used + v.count) v.places)
unfolding waiting
waiting-front v = take-drop v.used v.count v.places

-- a message put behind the waiting ones is the last of them
waiting-appended : (m : Message) (v : Buffer) → v.used + v.count < length v.places
    → waiting (appended m v) ≡ waiting v ++ (place_of m ∷ [])
unfolding appended
waiting-appended m v room =
    let inside : v.used ≤ length (take (v.used + v.count) v.places) = simp length-take (omega arith) in
    rw (waiting-front (appended m v), waiting-front v, add-one, add-suc, take-suc-set, drop-append-le)

-- a message as it is kept is a good place, and a good waiting one
pub place_of-good : (m : Message) → GoodPlace (place_of m)
unfolding place_of
place_of-good m = record { eight = length-pad word_limit m.words }

place_of-waiting : (m : Message) → GoodMessage m → GoodWaiting (place_of m)
unfolding place_of
place_of-waiting m g =
    record { some_words = g.some_words; few_words = g.few_words; rest-zero = drop-pad Zero refl word_limit m.words }

-- an empty place is one, and is wiped
pub place-good : GoodPlace empty_place
place-good = record { eight = refl }

pub place-wiped : Wiped empty_place
place-wiped = record { len-zero = refl; words-zero = every-replicate Zero word_limit 0 refl }

-- and so is every place of an empty page
pub length-page : (b : Build) → length (empty_page b) ≡ b.per_frame
unfolding empty_page
length-page b = length-replicate b.per_frame empty_place

pub page-good : (b : Build) → Every GoodPlace (empty_page b)
unfolding empty_page
page-good b = every-replicate GoodPlace b.per_frame empty_place place-good

page-wiped : (b : Build) → Every Wiped (empty_page b)
unfolding empty_page
page-wiped b = every-replicate Wiped b.per_frame empty_place place-wiped

-- a place that is wiped is the empty one
pub wiped-place : (p : Place) → GoodPlace p → Wiped p → p ≡ empty_place
wiped-place p good wiped =
    let words : p.words ≡ replicate word_limit 0 = rw good.eight at (every-same 0 p.words wiped.words-zero) in
    λ i. record { len = wiped.len-zero i; words = words i }

-- so are places that all are
pub wiped-places : (ps : List Place) → Every GoodPlace ps → Every Wiped ps → ps ≡ replicate (length ps) empty_place
wiped-places [] good wiped = refl
wiped-places (p ∷ ps) good wiped =
    let first = wiped-place p good.0 wiped.0 in
    let rest = wiped-places ps good.1 wiped.1 in
    cc

-- what holds of the elements from k on holds of those from a later one on
pub every-later : {A : Type 0} (P : A → Type 0) (k j : ℕ) (xs : List A) → k ≤ j → Every P (drop k xs) → Every P (drop j xs)
every-later P k j xs h e =
    let at : k + (j - k) ≡ j = omega arith in
    rw (sym (ap (λ (i : ℕ). drop i xs) at), ← drop-drop (j - k) k xs) (every_drop P (j - k) (drop k xs) e)

-- a message put behind the waiting ones leaves the others wiped
wiped-appended : (m : Message) (v : Buffer) → Every Wiped (unused v) → Every Wiped (unused (appended m v))
unfolding appended unused
wiped-appended m v e =
    let both = (every_append Wiped (take v.used v.places) (drop (v.used + v.count) v.places)).0 e in
    let front = take-set-le v.used v.places (v.used + v.count) (place_of m) (omega arith) in
    let behind = drop-set-lt (v.used + (v.count + 1)) v.places (v.used + v.count) (place_of m) (omega arith) in
    let later = every-later Wiped (v.used + v.count) (v.used + (v.count + 1)) v.places (omega arith) both.1 in
    rw (front, behind) ((every_append Wiped (take v.used v.places) (drop (v.used + (v.count + 1)) v.places)).1 (both.0, later))

-- a stock whose buffer is the given one with room for one more message
record Roomy (b : Build) (fs es : List ℕ) (v : Buffer) (s : Stock) : Type 0 where
  used : s.buffer.used ≡ v.used
  count : s.buffer.count ≡ v.count
  room : v.used + v.count < length s.buffer.places
  list_length : length s.buffer.frames ≡ ceil_div (v.used + v.count + 1) b.per_frame
  whole : length s.buffer.places ≡ length s.buffer.frames * b.per_frame
  places : Every GoodPlace s.buffer.places
  waits : waiting s.buffer ≡ waiting v
  wiped : Every Wiped (unused s.buffer)
  weights : SameFrames s.free s.buffer.frames fs v.frames
  order : SameFrames s.free s.entered fs es

-- the stock in which the buffer has the message too
abbrev pub stocked : Message → Stock → Stock
stocked m s = record { free = s.free; entered = s.entered; buffer = appended m s.buffer }

-- what putting a message does to a free line, the order of entry and a buffer
pub record Stored (b : Build) (m : Message) (fs es : List ℕ) (v : Buffer) (t : Stock) : Type 0 where
  pub traded : Traded b fs v t
  pub order : SameFrames t.free t.entered fs es
  pub used : t.buffer.used ≡ v.used
  pub count : t.buffer.count ≡ v.count + 1
  pub waits : waiting t.buffer ≡ waiting v ++ (place_of m ∷ [])

module _ {b : Build} {v : Buffer} (good : GoodBuffer b v) where
  -- the used-up places are wiped, and those behind the last message
  pub both-wiped : Every Wiped (take v.used v.places) × Every Wiped (drop (v.used + v.count) v.places)
  unfolding unused
  both-wiped = (every_append Wiped (take v.used v.places) (drop (v.used + v.count) v.places)).0 good.unused-wiped

  -- with a page more too
  wiped-extended : (f : ℕ) → Every Wiped (unused (extended b f v))
  unfolding extended unused
  wiped-extended f =
      let front = take-append-le v.used v.places (empty_page b) (omega (arith, fits good)) in
      let behind = drop-append-le (v.used + v.count) v.places (empty_page b) (fits good) in
      let end = (every_append Wiped (drop (v.used + v.count) v.places) (empty_page b)).1 (both-wiped.1, page-wiped b) in
      rw (front, behind) ((every_append Wiped (take v.used v.places) (drop (v.used + v.count) v.places ++ empty_page b)).1 (both-wiped.0, end))

  -- there is room already
  roomy-already : (fs es : List ℕ) → v.used + v.count < length v.places
      → Roomy b fs es v (record { free = fs; entered = es; buffer = v })
  roomy-already fs es room =
      let ends : length v.frames * b.per_frame < v.used + v.count + 1 + b.per_frame =
      omega (arith, ceil-least (v.used + v.count) b.per_frame (omega arith), ap (λ (k : ℕ). k * b.per_frame) good.list_length) in
      record {
        used = refl;
        count = refl;
        room = room;
        list_length = ceil-unique (v.used + v.count + 1) b.per_frame (length v.frames) (omega (arith, good.whole)) ends;
        whole = good.whole;
        places = good.places;
        waits = refl;
        wiped = good.unused-wiped;
        weights = λ w. refl;
        order = λ w. refl;
      }

  -- a frame is taken
  roomy-taken : (f : ℕ) (fs es : List ℕ) → length v.places ≤ v.used + v.count
      → Roomy b (f ∷ fs) es v (take_frame b (f ∷ fs) es v)
  unfolding take_frame extended
  roomy-taken f fs es full =
      let joined = length-append v.places (empty_page b) in
      let page = length-page b in
      let longer : length (v.frames ++ (f ∷ [])) ≡ length v.frames + 1 = length-append v.frames (f ∷ []) in
      let exact : length v.frames * b.per_frame ≡ v.used + v.count = omega (arith, good.whole, fits good) in
      record {
        used = refl;
        count = refl;
        room = omega (arith, fits good);
        list_length =
            longer ∙ ceil-unique (v.used + v.count + 1) b.per_frame (length v.frames + 1) (omega arith) (omega arith);
        whole = rw longer (omega (arith, good.whole));
        places = (every_append GoodPlace v.places (empty_page b)).1 (good.places, page-good b);
        waits =
            rw (waiting-front (extended b f v), waiting-front v, take-append-le (v.used + v.count) v.places (empty_page b) (fits good));
        wiped = wiped-extended f;
        weights = λ w. omega (arith, weight-append w v.frames (f ∷ []));
        order = λ w. omega (arith, weight-append w es (f ∷ []));
      }

  -- either way there is room, if a full buffer meets a free frame
  with-room : (fs es : List ℕ) → (length v.places ≤ v.used + v.count → 1 ≤ length fs)
      → Roomy b fs es v (with_room b fs es v)
  unfolding with_room
  with-room fs es frame = go (ltb (v.used + v.count) (length v.places)) refl
    where
      taken : (fs : List ℕ) → length v.places ≤ v.used + v.count → 1 ≤ length fs → Roomy b fs es v (take_frame b fs es v)
      taken [] full some = absurd (not-suc-le-zero some)
      taken (f ∷ fs) full some = roomy-taken f fs es full

      go : (t : Bool) → ltb (v.used + v.count) (length v.places) ≡ t
          → Roomy b fs es v (cond t (record { free = fs; entered = es; buffer = v }) (take_frame b fs es v))
      go true e = roomy-already fs es (ltb-true _ _ e)
      go false e = taken fs (ltb-false _ _ e) (frame (ltb-false _ _ e))

  -- a message is stored, if a full buffer meets a free frame
  pub stored : (m : Message) → GoodMessage m → (fs es : List ℕ)
      → (length v.places ≤ v.used + v.count → 1 ≤ length fs) → Stored b m fs es v (stocked m (with_room b fs es v))
  unfolding appended
  stored m message fs es frame =
      let s = with_room b fs es v in
      let r = with-room fs es frame in
      let at : s.buffer.used + s.buffer.count ≡ v.used + v.count = cc in
      let ends = waiting-appended m s.buffer (rw at r.room) in
      record {
        traded = record {
          good = record {
            used-bound = rw r.used good.used-bound;
            used-empty = λ none. omega arith;
            list_length = r.list_length ∙ ap (λ (k : ℕ). ceil_div k b.per_frame) (omega arith);
            whole = length-set s.buffer.places (s.buffer.used + s.buffer.count) (place_of m) ∙ r.whole;
            places = every_set GoodPlace s.buffer.places (s.buffer.used + s.buffer.count) (place_of m) r.places (place_of-good m);
            waiting-good =
                rw (ends, r.waits)
                ((every_append GoodWaiting (waiting v) (place_of m ∷ [])).1 (good.waiting-good, (place_of-waiting m message, tt)));
            unused-wiped = wiped-appended m s.buffer r.wiped;
          };
          weights = r.weights;
        };
        order = r.order;
        used = r.used;
        count = rw r.count;
        waits = ends ∙ rw r.waits;
      }

-- what removing the first message does to a free line and a buffer
pub record Removed (b : Build) (fs : List ℕ) (v : Buffer) (t : Stock) : Type 0 where
  pub traded : Traded b fs v t
  pub less : t.buffer.used + t.buffer.count ≤ v.used + v.count
  pub waits : waiting t.buffer ≡ drop 1 (waiting v)

-- a list's first element weighs what the rest lacks
weight-first : (w : ℕ → ℕ) (xs : List ℕ) → 1 ≤ length xs → w (get_or xs 0 0) + weight w (drop 1 xs) ≡ weight w xs
weight-first w [] some = absurd (not-suc-le-zero some)
weight-first w (x ∷ xs) some = refl

module _ {b : Build} {v : Buffer} (good : GoodBuffer b v) (some : 1 ≤ v.count) where
  -- the waiting messages but the first, as they are read behind it
  waiting-rest : take (v.count - 1) (drop (v.used + 1) v.places) ≡ drop 1 (waiting v)
  unfolding waiting
  waiting-rest =
      let count : 1 + (v.count - 1) ≡ v.count = omega arith in
      rw (← drop-drop 1 v.used v.places, take-drop 1 (v.count - 1) (drop v.used v.places), count)

  -- the buffer has a frame, and the others are one less
  pub held : 1 ≤ length v.frames
  held = rw good.list_length (ceil-some (v.used + v.count) b.per_frame (omega arith) (omega arith))

  fewer : length v.frames ≡ length (drop 1 v.frames) + 1
  fewer = omega (arith, held, length-drop 1 v.frames)

  -- the places are wiped but those that wait still, where the first place is used up
  wiped-used : Every Wiped (take (v.used + 1) (set v.places v.used empty_place) ++ drop (v.used + 1 + (v.count - 1)) (set v.places v.used empty_place))
  wiped-used =
      let inside : v.used < length v.places = omega (arith, fits good) in
      let front : take (v.used + 1) (set v.places v.used empty_place) ≡ take v.used v.places ++ (empty_place ∷ []) =
      rw add-one (take-suc-set v.places v.used empty_place inside) in
      let behind = drop-set-lt (v.used + 1 + (v.count - 1)) v.places v.used empty_place (omega arith) in
      let up = (every_append Wiped (take v.used v.places) (empty_place ∷ [])).1 ((both-wiped good).0, (place-wiped, tt)) in
      let later = every-later Wiped (v.used + v.count) (v.used + 1 + (v.count - 1)) v.places (omega arith) (both-wiped good).1 in
      rw (front, behind)
      ((every_append Wiped (take v.used v.places ++ (empty_place ∷ [])) (drop (v.used + 1 + (v.count - 1)) v.places)).1 (up, later))

  -- and where the first frame is freed
  wiped-freed : Every Wiped (drop (0 + (v.count - 1)) (drop b.per_frame v.places))
  wiped-freed =
      rw drop-drop
      (every-later Wiped (v.used + v.count) (b.per_frame + (0 + (v.count - 1))) v.places (omega (arith, good.used-bound)) (both-wiped good).1)

  -- the first place is used up, and its frame stays
  removed-used : (fs es : List ℕ) → v.count ≢ 1 → v.used + 1 ≢ b.per_frame → Removed b fs v (use_up fs es v)
  unfolding use_up waiting unused
  removed-used fs es more inside =
      let behind : drop (v.used + 1) (set v.places v.used empty_place) ≡ drop (v.used + 1) v.places =
      drop-set-lt (v.used + 1) v.places v.used empty_place (omega arith) in
      record {
        traded = record {
          good = record {
            used-bound = omega arith;
            used-empty = λ none. omega arith;
            list_length = good.list_length ∙ ap (λ (k : ℕ). ceil_div k b.per_frame) (omega arith);
            whole = length-set v.places v.used empty_place ∙ good.whole;
            places = every_set GoodPlace v.places v.used empty_place good.places place-good;
            waiting-good = rw (behind, waiting-rest) (every_drop GoodWaiting 1 (waiting v) good.waiting-good);
            unused-wiped = wiped-used;
          };
          weights = λ w. refl;
        };
        less = omega arith;
        waits = ap (take (v.count - 1)) behind ∙ waiting-rest;
      }

  -- the first frame is freed
  removed-freed : (fs es : List ℕ) → length (drop 1 v.frames) ≡ ceil_div (0 + (v.count - 1)) b.per_frame
      → take (v.count - 1) (drop b.per_frame v.places) ≡ take (v.count - 1) (drop (v.used + 1) v.places)
      → Removed b fs v (free_first b fs es v)
  unfolding free_first first_frame waiting unused
  removed-freed fs es lists front =
      let places : length v.places ≡ length (drop 1 v.frames) * b.per_frame + b.per_frame =
      omega (arith, good.whole, ap (λ (k : ℕ). k * b.per_frame) fewer) in
      record {
        traded = record {
          good = record {
            used-bound = omega arith;
            used-empty = λ none. refl;
            list_length = lists;
            whole = omega (arith, length-drop b.per_frame v.places);
            places = every_drop GoodPlace b.per_frame v.places good.places;
            waiting-good = rw (front, waiting-rest) (every_drop GoodWaiting 1 (waiting v) good.waiting-good);
            unused-wiped = wiped-freed;
          };
          weights = λ w.
              omega (arith, weight-append w fs (get_or v.frames 0 0 ∷ []), weight-first w v.frames held);
        };
        less = omega arith;
        waits = front ∙ waiting-rest;
      }

  -- where the last message goes, its frame is the only one
  removed-last : (fs es : List ℕ) → v.count ≡ 1 → Removed b fs v (free_first b fs es v)
  removed-last fs es last =
      let only : 1 ≡ ceil_div (v.used + v.count) b.per_frame = ceil-unique (v.used + v.count) b.per_frame 1 (omega arith) (omega arith) in
      let lists : length (drop 1 v.frames) ≡ 0 = omega (arith, good.list_length, fewer) in
      let none : v.count - 1 ≡ 0 = omega arith in
      removed-freed fs es (lists ∙ ceil-unique (0 + (v.count - 1)) b.per_frame 0 (omega arith) (omega arith)) (rw none)

  -- where the first frame is used up, the others hold the rest
  removed-frame : (fs es : List ℕ) → v.used + 1 ≡ b.per_frame → Removed b fs v (free_first b fs es v)
  removed-frame fs es whole =
      let spread = ap (λ (k : ℕ). k * b.per_frame) (sym good.list_length ∙ fewer) in
      let enough = ceil-enough (v.used + v.count) b.per_frame (omega arith) in
      let least = ceil-least (v.used + v.count) b.per_frame (omega arith) in
      let lists = ceil-unique (0 + (v.count - 1)) b.per_frame (length (drop 1 v.frames)) (omega arith) (omega arith) in
      removed-freed fs es lists (rw whole)

  -- the first message is removed
  pub removed-first : (fs es : List ℕ) → Removed b fs v (remove_first b fs es v)
  unfolding remove_first
  removed-first fs es = go (eqb v.count 1) refl (eqb (v.used + 1) b.per_frame) refl
    where
      go : (t : Bool) → eqb v.count 1 ≡ t → (u : Bool) → eqb (v.used + 1) b.per_frame ≡ u
          → Removed b fs v (cond (t || u) (free_first b fs es v) (use_up fs es v))
      go true e u f = removed-last fs es (eqb-true _ _ e)
      go false e true f = removed-frame fs es (eqb-true _ _ f)
      go false e false f = removed-used fs es (eqb-false _ _ e) (eqb-false _ _ f)

-- a number is left out, and another kept
without-same : (f x : ℕ) (xs : List ℕ) → x ≡ f → without f (x ∷ xs) ≡ without f xs
unfolding without
without-same f x xs e = filter-fail (λ y. not (eqb y f)) x xs (ap not (eq-eqb x f e))

without_other : (f x : ℕ) (xs : List ℕ) → x ≢ f → without f (x ∷ xs) ≡ x ∷ without f xs
unfolding without
without_other f x xs d = filter-pass (λ y. not (eqb y f)) x xs (ap not (ne_eqb x f d))

-- the numbers without one of them weigh less by what it weighs
pub weight-without : (w : ℕ → ℕ) (f : ℕ) (xs : List ℕ) → weight w (without f xs) + count_of f xs * w f ≡ weight w xs
unfolding without
weight-without w f [] = omega arith
weight-without w f (x ∷ xs) = go (ℕ_discrete x f) (weight-without w f xs)
  where
    go : Dec (x ≡ f) → weight w (without f xs) + count_of f xs * w f ≡ weight w xs
        → weight w (without f (x ∷ xs)) + count_of f (x ∷ xs) * w f ≡ weight w (x ∷ xs)
    go (yes e) r = rw (without-same f x xs e, eq-eqb x f e) (omega (arith, ap w e))
    go (no d) r = rw (without_other f x xs d, ne_eqb x f d) (omega arith)

-- one that stands once is left out once
pub weight-left : (w : ℕ → ℕ) (f : ℕ) (xs : List ℕ) → count_of f xs ≡ 1 → weight w (without f xs) + w f ≡ weight w xs
weight-left w f xs once = let r = rw once at (weight-without w f xs) in omega arith

-- a frame that is freed, if its number stands once in the order of entry, goes from there to the free line
pub removed-order : (b : Build) (fs es : List ℕ) (v : Buffer) → count_of (get_or v.frames 0 0) es ≡ 1
    → SameFrames (remove_first b fs es v).free (remove_first b fs es v).entered fs es
unfolding remove_first free_first first_frame use_up
removed-order b fs es v once w = go (eqb v.count 1 || eqb (v.used + 1) b.per_frame)
  where
    go : (t : Bool) → weight w (cond t (free_first b fs es v) (use_up fs es v)).free + weight w (cond t (free_first b fs es v) (use_up fs es v)).entered
        ≡ weight w fs + weight w es
    go true =
        let f = get_or v.frames 0 0 in
        omega (arith, weight-append w fs (f ∷ []), weight-left w f es once)
    go false = refl
