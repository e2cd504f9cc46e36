-- The lines of a portion one after the other, whatever is told of them: what has been stepped, counted and kept. Assumes nothing.
use Prim.Native.Nat.{ℕ, suc, ◌+◌, ◌≤◌, ◌<◌}
use native.Mathlib.Omega.{arith}
use mathlib.Core.Bool.{Bool}
use mathlib.Core.List.{List, [], ◌∷◌, ◌++◌, append-nil, append_assoc}
use mathlib.Core.Path.{◌≡◌, refl, sym, ap, subst, ◌∙◌}
use lib.ListN.{length, take, drop, length-append, take-append-drop}
use lib.Seq.{length-take-le, take-take}
use Rattle.rules.specs.MemoryTest.{is_memory, step_memory}
use Rattle.rules.specs.Script.{newline, read_line}
use Rattle.reasons.specs.Follow.{Seen}
use Rattle.script.specs.Feed.{Cut, kept_line, kept_room, last_number}
use Rattle.script.specs.Feeding.{after_lines, all_but_last, begun, lines_behind, rest_behind, whole}
use Rattle.script.specs.Read.{OneLine, field_limit, line_end, line_of}
use Rattle.script.proofs.OneLineLaws.{begun-one, ended-begun, one-append, one-begun, one_of, one_split, one-take, whole-one}
use Rattle.script.proofs.PortionLaws.{after-append, joins}
use Rattle.script.proofs.PortionsLaws.{begun-open, joined}
use Rattle.script.proofs.feed.FedLaws.{kept-one}
use Rattle.script.proofs.play.CutLaws.{grown, part-front}
use Rattle.script.proofs.play.PlayLaws.{known-stays}
use Rattle.follow.specs.Portion.{Goes, LinesAhead}
use Rattle.follow.specs.Seen.{LineStepped, seen_memory, seen_on}
use Rattle.script.specs.declared.feed.State.{State as State·rt}
use Rattle.follow.specs.declared.seen.Line.{Line as Line·rt}

-- what has begun is one line
pub begun-is-one : (x : List ℕ) → OneLine (begun x)
begun-is-one x = one-begun (begun x) (begun-open x)

-- and no line is whole in one
pub one-open : (t : List ℕ) → OneLine t → whole t ≡ []
unfolding whole all_but_last
one-open t one = ap all_but_last (one_split t one)

-- lines of u, where b has begun, are stepped and counted up to a position, and what has begun there is kept
pub record Passed (m b u : List ℕ) (lines : ℕ) (m' kept : List ℕ) (count at i : ℕ) : Type 0 where
  pub inside : at ≤ length u
  pub goes_on : begun (drop at u) ≡ []
  pub rest : take count kept ≡ begun (b ++ take at u)
  pub room : count ≤ kept_room
  pub known : is_memory m' ≡ is_memory m
  pub memory : m' ≡ after_lines m (whole (b ++ take at u))
  pub counted : i ≡ lines + length (whole (b ++ take at u))
  pub few : i ≤ lines + at

-- none yet
pub passed_start : (m u : List ℕ) (lines : ℕ) {kept : List ℕ} {count : ℕ} → count ≤ kept_room → OneLine (take count kept) → begun u ≡ []
    → Passed m (take count kept) u lines m kept count 0 lines
unfolding after_lines
passed_start m u lines {kept} {count} room one cut =
    let b = take count kept in
    let w : whole (b ++ []) ≡ [] = ap whole (append-nil b) ∙ one-open b one in
    record {
      inside = omega arith;
      goes_on = cut;
      rest = sym (ap begun (append-nil b) ∙ begun-one b one);
      room = room;
      known = refl;
      memory = rw w;
      counted = rw w (omega arith);
      few = omega arith;
    }

-- the next line can be stepped
pub passed-next : {m b u : List ℕ} {lines : ℕ} {m₁ kept : List ℕ} {count at i : ℕ} → Passed m b u lines m₁ kept count at i
    → {good : Bool} {fields : List ℕ} → is_memory m ≡ good → kept_room < length kept → at < length u → field_limit ≤ length fields → Goes m₁ good kept count u at fields
passed-next {b = b} {u = u} {at = at} p known room inside many =
    record {
      known = p.known ∙ known;
      room = room;
      few = p.room;
      one = subst OneLine (sym p.rest) (begun-is-one (b ++ take at u));
      inside = inside;
      lines = p.goes_on;
      many = many;
    }

-- one line more
module _ {m b u : List ℕ} {lines : ℕ} {m₁ kept : List ℕ} {count at i : ℕ} (p : Passed m b u lines m₁ kept count at i) (inside : at < length u) where
  more_bytes : (k : ℕ) → k ≡ line_end u at + 1 → take k u ≡ take at u ++ (line_of (drop at u) ++ (newline ∷ []))
  unfolding line_end
  more_bytes k e =
      let g = grown u 0 at (omega arith) inside p.goes_on in
      ap (λ (j : ℕ). take j u) e ∙ sym (part-front u (at + length (line_of (drop at u)) + 1)) ∙ g.grows
      ∙ ap (λ (x : List ℕ). x ++ (line_of (drop at u) ++ (newline ∷ []))) (part-front u at)

  pub more-lines : (k : ℕ) → k ≡ line_end u at + 1
      → (whole (b ++ take k u) ≡ whole (b ++ take at u) ++ ((take count kept ++ line_of (drop at u)) ∷ [])) × (begun (b ++ take k u) ≡ [])
  more-lines k e =
      let l = line_of (drop at u) in
      let x = b ++ take at u in
      let grows : b ++ take k u ≡ x ++ (l ++ (newline ∷ [])) =
      ap (λ (y : List ℕ). b ++ y) (more_bytes k e) ∙ sym (append_assoc b (take at u) (l ++ (newline ∷ []))) in
      let j = joins x (l ++ (newline ∷ [])) in
      let joint : begun x ++ (l ++ (newline ∷ [])) ≡ (begun x ++ l) ++ (newline ∷ []) = sym (append_assoc (begun x) l (newline ∷ [])) in
      let one = one-append (begun x) l (begun-is-one x) (one_of (drop at u)) in (
        ap whole grows ∙ j.lines ∙ ap (λ (y : List ℕ). whole x ++ whole y) joint ∙ ap (λ (ls : List (List ℕ)). whole x ++ ls) (whole-one (begun x ++ l) one)
            ∙ ap (λ (y : List ℕ). whole x ++ ((y ++ l) ∷ [])) (sym p.rest),
        ap begun grows ∙ j.rest ∙ ap begun joint ∙ ended-begun (begun x ++ l) one,
      )

  pub passed-more : {m₂ kept₂ : List ℕ} {t : Line·rt} → LineStepped m₁ (take count kept ++ line_of (drop at u)) (line_end u at + 1) m₂ t
      → Passed m b u lines m₂ kept₂ 0 t.next (i + 1)
  unfolding after_lines line_end
  passed-more {t = t} g =
      let l = take count kept ++ line_of (drop at u) in
      let ls = whole (b ++ take at u) in
      let e = g.next in
      let w = more-lines t.next e in
      let v = grown u 0 at (omega arith) inside p.goes_on in
      let a = v.inside in
      record {
        inside = omega arith;
        goes_on = ap (λ (k : ℕ). begun (drop k u)) e ∙ v.rest;
        rest = sym w.1;
        room = omega arith;
        known = ap is_memory g.memory ∙ known-stays m₁ (read_line l) ∙ p.known;
        memory = g.memory ∙ ap (λ (k : List ℕ). (step_memory k (read_line l)).memory) p.memory ∙ sym (after-append m ls (l ∷ [])) ∙ sym (ap (after_lines m) w.0);
        counted = let n = ap length w.0 ∙ length-append ls (l ∷ []) in let c = p.counted in omega arith;
        few = let f = p.few in omega arith;
      }

-- What is seen of them.

pub length_seen : (m : List ℕ) (ls : List (List ℕ)) → length (seen_memory m ls) ≡ length ls
unfolding seen_memory
length_seen m [] = refl
length_seen m (l ∷ ls) = ap suc (length_seen (step_memory m (read_line l)).memory ls)

pub seen-append : (m : List ℕ) (ks ls : List (List ℕ)) → seen_memory m (ks ++ ls) ≡ seen_memory m ks ++ seen_memory (after_lines m ks) ls
unfolding seen_memory after_lines
seen-append m [] ls = refl
seen-append m (k ∷ ks) ls = ap (λ (ss : List Seen). seen_on m k ∷ ss) (seen-append (step_memory m (read_line k)).memory ks ls)

-- The portion's end: behind its last newline no line is whole, and what stands there is kept behind what has begun.

module _ {b input : List ℕ} {last : ℕ} (one : OneLine b) (c : Cut input 0 last) where
  pub cut-whole : begun (take last input) ≡ []
  cut-whole = ap begun (sym (part-front input last)) ∙ c.lines

  all-bytes : b ++ input ≡ (b ++ take last input) ++ drop last input
  all-bytes = ap (λ (x : List ℕ). b ++ x) (sym (take-append-drop last input)) ∙ sym (append_assoc b (take last input) (drop last input))

  rest-one : OneLine (begun (b ++ take last input) ++ drop last input)
  rest-one = one-append (begun (b ++ take last input)) (drop last input) (begun-is-one (b ++ take last input)) (one-begun (drop last input) c.rest)

  pub portion-lines : whole (b ++ take last input) ≡ lines_behind b input
  portion-lines =
      let x = b ++ take last input in
      sym (sym (joined b input (one-open b one)).lines ∙ ap whole all-bytes ∙ (joins x (drop last input)).lines
      ∙ ap (λ (ls : List (List ℕ)). whole x ++ ls) (one-open (begun x ++ drop last input) rest-one) ∙ append-nil (whole x))

  pub portion-rest : begun (b ++ take last input) ++ drop last input ≡ rest_behind b input
  portion-rest =
      let x = b ++ take last input in
      sym (sym (joined b input (one-open b one)).rest ∙ ap begun all-bytes ∙ (joins x (drop last input)).rest ∙ begun-one (begun x ++ drop last input) rest-one)

  pub portion-kept : (lines : ℕ) (kept : List ℕ) (count : ℕ) → take count kept ≡ take kept_room (begun (b ++ take last input) ++ drop last input)
      → kept_line (record { lines = lines; kept = kept; count = count }) ≡ take kept_room (rest_behind b input)
  unfolding kept_line
  portion-kept lines kept count k =
      let y = begun (b ++ take last input) ++ drop last input in
      ap (λ (t : List ℕ). line_of (take kept_room t)) k ∙ ap line_of (take-take kept_room kept_room y (omega arith)) ∙ one-take kept_room y rest-one
      ∙ ap (take kept_room) portion-rest

-- what a state of the script so far keeps is one line
pub kept-one-line : (st : State·rt) (n : ℕ) → take n st.kept ≡ kept_line st → OneLine (take n st.kept)
unfolding kept_line
kept-one-line st n begins = kept-one (take kept_room (take st.count st.kept)) begins

-- so the lines of a portion, up to its last newline, lie ahead
pub portion-ahead : (m : List ℕ) (st : State·rt) {input : List ℕ} {last : ℕ} (n : ℕ) → st.lines + length input < last_number → Cut input 0 last
    → take n st.kept ≡ kept_line st → {good : Bool} → good ≡ is_memory m → kept_room < length st.kept → n ≤ kept_room
    → LinesAhead m good st.kept n (take last input) st.lines
portion-ahead m st {input} {last} n few c begins known room short =
    record {
      known = sym known;
      room = room;
      few = short;
      one = kept-one-line st n begins;
      cut = cut-whole (kept-one-line st n begins) c;
      numbers = let l = length-take-le last input c.inside in let i = c.inside in omega arith;
    }
