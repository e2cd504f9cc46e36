-- A script fed in portions: what is kept, and where a portion is cut. Assumes nothing.
use Prim.Native.Nat.{ℕ, suc, ◌+◌, ◌-◌, ◌≤◌, ◌<◌, min}
use native.Mathlib.Decide.{dec_lt}
use native.Mathlib.Omega.{arith}
use mathlib.Core.List.{List, [], ◌∷◌, ◌++◌, append-nil}
use mathlib.Core.Path.{◌≡◌, refl, sym, ap, ◌∙◌, subst}
use mathlib.Core.Bool.{Bool, true, false}
use lib.Dec.{eqb}
use lib.ListN.{length, take, drop, get_or, length-drop}
use lib.Seq.{drop_at, drop-cons, drop-drop, drop-length, get_or-drop, length-take-le, take-add, take_all, take-append-add, take-suc, take-take}
use borrow.Author.Tests.{ne_eqb}
use Rattle.rules.specs.Script.{newline}
use Rattle.script.specs.Feeding.{whole, begun, after_lines, list_memory}
use Rattle.script.specs.Feed.{kept_room, kept_line, Cut, LinesFeedable, LinesFed}
use Rattle.script.specs.Play.{part, Playable, PlayedTo}
use Rattle.script.specs.Read.{line_end, line_of}
use Rattle.script.specs.Written.{Appended}
use Rattle.script.specs.declared.write.Counter.{Counter as Counter·rt}
use Rattle.script.specs.declared.play.Played.{Played as Played·rt}
use Rattle.script.specs.declared.play.Stop.TheVariants.{AllUsed}
use Rattle.script.proofs.write.AppendedLaws.{appended-as}
use Rattle.script.proofs.read.LineEndLaws.{by-test, end-inside}
use Rattle.script.proofs.PortionLaws.{whole-newline, whole-other, whole-nil, begun-nil, join_lines, join_rest, joins, begun_all}
use Rattle.script.proofs.play.CutLaws.{part_none}
use Rattle.script.proofs.play.StopLaws.{all-or-number, all-or-room}
use Rattle.script.proofs.OneLineLaws.{end-first, line-front, one-begun, one-take}

-- What is kept: a text behind another, as far as there is room.

pub kept-some : (xs ys : List ℕ) (k : ℕ) → length xs ≤ k → take k (xs ++ ys) ≡ xs ++ take (k - length xs) ys
kept-some xs ys k h =
    let e : length xs + (k - length xs) ≡ k = omega arith in
    ap (λ (n : ℕ). take n (xs ++ ys)) (sym e) ∙ take-append-add xs ys (k - length xs)

-- the bytes that there is room for are the first, or all
pub taken-fits : (xs : List ℕ) (n k : ℕ) → n ≡ min (length xs) k → take n xs ≡ take k xs
taken-fits xs n k e =
    elim (dec_lt k (length xs)) [
      | yes h ↦ let same : n ≡ k = omega arith in ap (λ (j : ℕ). take j xs) same
      | no h ↦ take_all n xs (omega arith) ∙ sym (take_all k xs (omega arith))
    ]

pub appended-kept : {kept kept' : List ℕ} (text : List ℕ) {count end n : ℕ} → Appended kept count kept' end (take n text) → n ≡ min (length text) (kept_room - count)
    → kept_room ≤ length kept → count ≤ kept_room → (take end kept' ≡ take kept_room (take count kept ++ text)) × (end ≤ kept_room)
appended-kept {kept} text {count} {n = n} a fits whole few =
    let l : length (take count kept) ≡ count = length-take-le count kept (omega arith) in
    let r = length-take-le n text (omega arith) in
    let e = a.end in (
      a.written ∙ ap (λ (y : List ℕ). take count kept ++ y) (taken-fits text n (kept_room - count) fits) ∙ ap (λ (k : ℕ). take count kept ++ take (kept_room - k) text) (sym l)
          ∙ sym (kept-some (take count kept) text kept_room (omega arith)),
      omega arith,
    )

-- What a state keeps: its bytes up to a newline.
pub kept-counted : (kept : List ℕ) (count : ℕ) {n r : ℕ} → kept_room ≤ length kept → n ≡ min count kept_room → r ≡ line_end (take n kept) 0
    → (r ≤ kept_room) × (take r kept ≡ line_of (take kept_room (take count kept)))
kept-counted kept count {n} {r} room all e =
    let t = take n kept in
    let l = length-take-le n kept (omega arith) in
    let i = end-inside t 0 (omega arith) in
    let f : r ≡ length (line_of t) = e ∙ end-first t in
    let same : t ≡ take kept_room (take count kept) = elim (dec_lt kept_room count) [
      | yes h ↦ let k : n ≡ kept_room = omega arith in ap (λ (j : ℕ). take j kept) k ∙ sym (take-take kept_room count kept (omega arith))
      | no h ↦
          let k : n ≡ count = omega arith in
          ap (λ (j : ℕ). take j kept) k ∙ sym (take_all kept_room (take count kept) (let c = length-take-le count kept (omega arith) in omega arith))
    ] in (
      omega arith,
      sym (take-take r n kept (omega arith)) ∙ ap (λ (k : ℕ). take k t) f ∙ line-front t ∙ ap line_of same,
    )

-- Where a portion is cut: behind its last newline.

-- at its end nothing is left
pub behind-none : (s : List ℕ) → whole (drop (length s) s) ≡ []
behind-none s = rw (drop-length s) whole-nil

-- a byte that is no newline completes no line
pub behind-other : (s : List ℕ) (i : ℕ) → 1 ≤ i → i ≤ length s → whole (drop i s) ≡ [] → (get_or s (i - 1) 0 ≡ 10 → ⊥) → whole (drop (i - 1) s) ≡ []
behind-other s i some inside none other =
    let e : suc (i - 1) ≡ i = omega arith in
    let x = get_or s (i - 1) 0 in
    ap whole (drop-cons s (i - 1) 0 (omega arith) ∙ ap (λ (k : ℕ). x ∷ drop k s) e)
    ∙ (whole-other x (drop i s) (ne_eqb x 10 other)).0 ∙ ap (join_lines x) none

-- behind a newline nothing has begun
pub record Ended (c : List ℕ) : Type 0 where
  pub some : 1 ≤ length (whole (c ++ (newline ∷ [])))
  pub none : begun (c ++ (newline ∷ [])) ≡ []

pub ended-line : (c : List ℕ) → Ended c
ended-line [] =
    let f = whole-newline newline [] refl in
    record { some = let e = ap length f.0 in omega arith; none = f.1 ∙ begun-nil }
ended-line (x ∷ c) = by-test (eqb x newline) (behind (ended-line c)) (joined (whole (c ++ (newline ∷ []))) refl (ended-line c))
  where
    behind : Ended c → eqb x newline ≡ true → Ended (x ∷ c)
    behind r q =
        let f = whole-newline x (c ++ (newline ∷ [])) q in
        record { some = let e = ap length f.0 in omega arith; none = f.1 ∙ r.none }

    joined : (ls : List (List ℕ)) → whole (c ++ (newline ∷ [])) ≡ ls → Ended c → eqb x newline ≡ false → Ended (x ∷ c)
    joined [] w r q = absurd (let e = ap length w in let k = r.some in omega arith)
    joined (l ∷ ls) w r q =
        let f = whole-other x (c ++ (newline ∷ [])) q in
        record {
          some = let e = ap length (f.0 ∙ ap (join_lines x) w) in omega arith;
          none = f.1 ∙ ap (λ (ks : List (List ℕ)). join_rest x ks (begun (c ++ (newline ∷ [])))) w ∙ r.none;
        }

pub cut-newline : (s : List ℕ) (from i : ℕ) → from < i → i ≤ length s → whole (drop i s) ≡ [] → get_or s (i - 1) 0 ≡ 10 → Cut s from i
unfolding part
cut-newline s from i some inside rest e =
    let l = drop from s in
    let k = i - from - 1 in
    let len = length-drop from s in
    let n : i - from ≡ suc k = omega arith in
    let at : from + k ≡ i - 1 = omega arith in
    let last : get_or l k 0 ≡ newline = get_or-drop from s k 0 ∙ ap (λ (j : ℕ). get_or s j 0) at ∙ e in
    let p : part s from i ≡ take k l ++ (newline ∷ []) =
    ap (λ (j : ℕ). take j l) n ∙ take-suc l k 0 (omega arith) ∙ ap (λ (x : ℕ). take k l ++ (x ∷ [])) last in
    record { forward = omega arith; inside = inside; lines = ap begun p ∙ (ended-line (take k l)).none; rest = rest }

pub cut-none : (s : List ℕ) (from i : ℕ) → from ≤ length s → i ≡ from → whole (drop i s) ≡ [] → Cut s from from
cut-none s from i inside e rest =
    record {
      forward = omega arith;
      inside = inside;
      lines = ap begun (part_none s from) ∙ begun-nil;
      rest = subst (λ (k : ℕ). whole (drop k s) ≡ []) e rest;
    }

-- The lines of a portion.

-- what is in front of a cut, from a position on, is a part of the portion
pub drop-taken : (s : List ℕ) (from to : ℕ) → from ≤ to → to ≤ length s → drop from (take to s) ≡ part s from to
unfolding part
drop-taken s from to low inside =
    let e : from + (to - from) ≡ to = omega arith in
    ap (λ (k : ℕ). drop from (take k s)) (sym e) ∙ ap (drop from) (take-add from (to - from) s)
    ∙ drop_at (take from s) (take (to - from) (drop from s)) from (length-take-le from s (omega arith))

-- and so is a part of it
pub part-taken : (s : List ℕ) (from used to : ℕ) → from ≤ used → used ≤ to → to ≤ length s → part (take to s) from used ≡ part s from used
unfolding part
part-taken s from used to low high inside =
    ap (take (used - from)) (drop-taken s from to (omega arith) inside) ∙ take-take (used - from) (to - from) (drop from s) (omega arith)

-- what is behind a cut, up to the end
pub drop_all : (s : List ℕ) (to : ℕ) → take (length s - to) (drop to s) ≡ drop to s
drop_all s to = take_all (length s - to) (drop to s) (let l = length-drop to s in omega arith)

-- behind the cut no line is completed, and all of it has begun
pub record CutLines (s : List ℕ) (from to : ℕ) : Type 0 where
  pub lines : whole (part s from (length s)) ≡ whole (part s from to)
  pub rest : begun (part s from (length s)) ≡ drop to s

pub cut-lines : (s : List ℕ) (from to : ℕ) → Cut s from to → CutLines s from to
unfolding part
cut-lines s from to c =
    let low = c.forward in
    let high = c.inside in
    let n : length s - from ≡ (to - from) + (length s - to) = omega arith in
    let at : from + (to - from) ≡ to = omega arith in
    let two : part s from (length s) ≡ part s from to ++ drop to s =
    ap (λ (k : ℕ). take k (drop from s)) n ∙ take-add (to - from) (length s - to) (drop from s)
    ∙ ap (λ (r : List ℕ). part s from to ++ take (length s - to) r) (drop-drop (to - from) from s ∙ ap (λ (k : ℕ). drop k s) at)
    ∙ ap (λ (r : List ℕ). part s from to ++ r) (drop_all s to) in
    let j = joins (part s from to) (drop to s) in
    record {
      lines = ap whole two ∙ j.lines ∙ ap (λ (b : List ℕ). whole (part s from to) ++ whole (b ++ drop to s)) c.lines
          ∙ ap (λ (ls : List (List ℕ)). whole (part s from to) ++ ls) c.rest ∙ append-nil (whole (part s from to));
      rest = ap begun two ∙ j.rest ∙ ap (λ (b : List ℕ). begun (b ++ drop to s)) c.lines ∙ begun_all (drop to s) c.rest;
    }

-- played up to the cut, or less for want of room
module _ {m : List ℕ} {good : Bool} {s : List ℕ} {start : ℕ} {out : List ℕ} {at : ℕ} {counter : Counter·rt} {lines : ℕ}
    (h : LinesFeedable m good s start out at counter lines) {to : ℕ} (c : Cut s start to) where
  pub cut-playable : Playable m good (take to s) start out at counter
  cut-playable =
      let l = length-take-le to s c.inside in
      record {
        known = h.known;
        inside = let f = c.forward in omega arith;
        lines = ap begun (drop-taken s start to c.forward c.inside) ∙ c.lines;
        within = h.within;
        counting = record { number = lines; counts = h.counts };
        few = let f = h.few in let i = c.inside in omega arith;
      }

  module _ {m' out' : List ℕ} {counter' : Counter·rt} {p : Played·rt} (q : PlayedTo m (take to s) start out at counter m' out' counter' p) where
    used-inside : p.used ≤ to
    used-inside = let i = q.inside in let l = length-take-le to s c.inside in omega arith

    same-part : part (take to s) start p.used ≡ part s start p.used
    same-part = part-taken s start p.used to q.forward used-inside c.inside

    -- it stopped for want of room: nothing has begun
    pub lines-stopped : (p.stop ≡ AllUsed → ⊥) → (kept : List ℕ)
        → LinesFed m s start out at lines m' out' (record { state = record { lines = lines + p.lines; kept = kept; count = 0 }; used = p.used; written = p.at; stop = p.stop })
    unfolding kept_line line_of
    lines-stopped stopped kept =
        record {
          forward = q.forward;
          inside = let u = used-inside in let i = c.inside in omega arith;
          memory = q.memory ∙ ap (λ (t : List ℕ). after_lines m (whole t)) same-part;
          listed = appended-as (q.listed lines h.counts) (ap (λ (t : List ℕ). list_memory (lines + 1) m (whole t)) same-part);
          counted = ap (λ (k : ℕ). lines + k) (q.lines ∙ ap (λ (t : List ℕ). length (whole t)) same-part);
          kept = sym (ap (take kept_room) (ap begun (sym same-part) ∙ q.cut));
          all-used = λ e. absurd (stopped e);
          no_room = q.no_room;
          stops = q.stops;
        }

    -- all was used
    pub lines-used : p.stop ≡ AllUsed → {kept : List ℕ} {count : ℕ} → take count kept ≡ take kept_room (drop to s)
        → LinesFed m s start out at lines m' out' (record { state = record { lines = lines + p.lines; kept = kept; count = count }; used = length s; written = p.at; stop = AllUsed })
    unfolding kept_line
    lines-used all k =
        let e : p.used ≡ to = q.all-used all ∙ length-take-le to s c.inside in
        let l = cut-lines s start to c in
        let w : whole (part (take to s) start p.used) ≡ whole (part s start (length s)) =
        ap whole same-part ∙ ap (λ (n : ℕ). whole (part s start n)) e ∙ sym l.lines in
        record {
          forward = h.inside;
          inside = omega arith;
          memory = q.memory ∙ ap (after_lines m) w;
          listed = appended-as (q.listed lines h.counts) (ap (list_memory (lines + 1) m) w);
          counted = ap (λ (n : ℕ). lines + n) (q.lines ∙ ap length w);
          kept = ap (λ (t : List ℕ). line_of (take kept_room t)) k ∙ ap line_of (take-take kept_room kept_room (drop to s) (omega arith))
              ∙ one-take kept_room (drop to s) (one-begun (drop to s) c.rest) ∙ sym (ap (take kept_room) l.rest);
          all-used = λ e. refl;
          no_room = λ e. absurd (all-or-room e);
          stops = all-or-number;
        }
