-- A portion fed, whatever the state. Assumes nothing.
use Prim.Native.Nat.{ℕ, zero, suc, ◌+◌, ◌≤◌, ◌<◌}
use native.Mathlib.Decide.{dec_lt}
use native.Mathlib.Omega.{arith}
use mathlib.Core.Bool.{Bool, true, false, not}
use mathlib.Core.List.{List, [], ◌∷◌}
use mathlib.Core.Path.{◌≡◌, refl, sym, ap, ◌∙◌, subst}
use lib.Dec.{ltb}
use lib.ListN.{length, take}
use borrow.Author.Tests.{lt-ltb}
use Rattle.rules.specs.Lists.{is_empty}
use Rattle.rules.specs.MemoryTest.{is_memory}
use Rattle.rules.specs.Script.{newline}
use Rattle.rules.specs.Text.{split}
use Rattle.script.specs.Feeding.{whole, begun, lines_behind, rest_behind, join_first, all_but_last, last_part, after_lines, list_memory}
use Rattle.script.specs.Feed.{kept_room, kept_line, last_number, LinesFeedable, LinesFed, BegunFed, FedTo}
use Rattle.script.specs.Play.{part}
use Rattle.script.specs.Portions.{last_newline}
use Rattle.script.specs.Read.{OneLine, line_of}
use Rattle.script.specs.Written.{Counts, line_room}
use Rattle.script.specs.declared.write.Counter.{Counter as Counter·rt}
use Rattle.script.specs.declared.feed.Fed.{Fed as Fed·rt}
use Rattle.script.specs.declared.feed.State.{State as State·rt}
use Rattle.script.specs.declared.play.Stop.TheVariants.{LastNumber}
use Rattle.script.proofs.write.AppendedLaws.{appended-as, appended-within}
use Rattle.script.proofs.feed.BegunLaws.{behind-open}
use Rattle.script.proofs.play.CutLaws.{part-front}
use Rattle.script.proofs.play.StopLaws.{stop-cases}
use Rattle.script.proofs.OneLineLaws.{one_of}
use Rattle.script.proofs.PortionLaws.{split-some}

-- where no line has begun the portion's lines are its own
join-none : (ps : List (List ℕ)) → 1 ≤ length ps → join_first [] ps ≡ ps
unfolding join_first
join-none [] some = absurd (omega arith)
join-none (p ∷ ps) some = refl

pub lines_none : (u : List ℕ) → (lines_behind [] u ≡ whole u) × (rest_behind [] u ≡ begun u)
unfolding lines_behind rest_behind whole begun
lines_none u =
    let e = join-none (split newline u) (split-some newline u) in
    (ap all_but_last e, ap last_part e)

pub fed-first : {m : List ℕ} {lines : ℕ} {input out m' out' : List ℕ} {f : Fed·rt} → LinesFed m input 0 out 0 lines m' out' f → BegunFed m [] lines input out m' out' f
fed-first {m} {lines} {input} {f = f} g =
    let u = take f.used input in
    let e = lines_none u in
    let w : whole (part input 0 f.used) ≡ lines_behind [] u = ap whole (part-front input f.used) ∙ sym e.0 in
    record {
      inside = g.inside;
      memory = g.memory ∙ ap (after_lines m) w;
      listed = appended-as g.listed (ap (list_memory (lines + 1) m) w);
      counted = g.counted ∙ ap (λ (ls : List (List ℕ)). lines + length ls) w;
      kept = g.kept ∙ ap (take kept_room) (ap begun (part-front input f.used) ∙ sym e.1);
      all-used = g.all-used;
      no_room = g.no_room;
      stops = g.stops;
    }

-- where the count is 0 nothing is kept
pub kept-empty : (st : State·rt) → st.count ≡ 0 → [] ≡ kept_line st
unfolding kept_line line_of
kept-empty st e = rw e

-- where as many bytes are a line, it has begun exactly where the count is above 0
some-counted : (r : ℕ) (xs : List ℕ) → r ≤ length xs → ltb 0 r ≡ not (is_empty (take r xs))
some-counted zero xs within = refl
some-counted (suc r) [] within = absurd (omega arith)
some-counted (suc r) (x ∷ xs) within = lt-ltb 0 (suc r) (omega arith)

pub begun-counted : {l : List ℕ} (r : ℕ) (kept : List ℕ) → r ≤ length kept → take r kept ≡ l → ltb 0 r ≡ not (is_empty l)
begun-counted r kept within same = some-counted r kept within ∙ ap (λ (x : List ℕ). not (is_empty x)) same

-- and what is kept is one line
pub kept-one : {l : List ℕ} (t : List ℕ) → l ≡ line_of t → OneLine l
kept-one t e = subst OneLine (sym e) (one_of t)

pub fed-feedable : {m : List ℕ} {good : Bool} {input out : List ℕ} {counter : Counter·rt} {lines : ℕ} → good ≡ is_memory m → Counts counter lines
    → lines + length input < last_number → LinesFeedable m good input 0 out 0 counter lines
fed-feedable known counts few =
    record { known = sym known; inside = omega arith; within = omega arith; counts = counts; few = omega arith }

-- there are enough line numbers
pub fed-enough : {m : List ℕ} {st : State·rt} {input out m' out' : List ℕ} {f : Fed·rt} {b : List ℕ} → st.lines + length input < last_number
    → b ≡ kept_line st → BegunFed m b st.lines input out m' out' f → FedTo m st input out m' out' f
fed-enough {m} {st} {input} {out} {m'} {out'} {f} few e g =
    record {
      enough = λ h. subst (λ (b : List ℕ). BegunFed m b st.lines input out m' out' f) e g;
      last-number = λ h. absurd (omega arith);
    }

-- What any caller of `feed` needs to go on: where it did not run out of line numbers there were enough, what was used and written lies inside,
-- and where the output has room for a line something is used.
module _ {m : List ℕ} {st : State·rt} {input out m' out' : List ℕ} {f : Fed·rt} (g : FedTo m st input out m' out' f) (stop : f.stop ≡ LastNumber → ⊥) where
  pub fed-numbers : st.lines + length input < last_number
  fed-numbers =
      elim (dec_lt (st.lines + length input) last_number) [
        | yes h ↦ h
        | no h ↦ absurd (stop (ap (λ (x : Fed·rt). x.stop) (g.last-number (omega arith)).1.1))
      ]

  pub fed-inside : f.used ≤ length input
  fed-inside = (g.enough fed-numbers).inside

  pub fed-within : f.written ≤ length out
  fed-within = appended-within (g.enough fed-numbers).listed (omega arith)

  pub fed-forward : 1 ≤ length input → line_room ≤ length out → 1 ≤ f.used
  unfolding list_memory line_of
  fed-forward some room =
      elim (dec_lt 0 f.used) [
        | yes h ↦ omega arith
        | no h ↦
            let b = g.enough fed-numbers in
            let z : f.used ≡ 0 = omega arith in
            let none : lines_behind (kept_line st) (take f.used input) ≡ [] =
            ap (λ (k : ℕ). lines_behind (kept_line st) (take k input)) z ∙ (behind-open (kept_line st) [] refl).0 in
            let l : length (list_memory (st.lines + 1) m (lines_behind (kept_line st) (take f.used input))) ≡ 0 =
            ap (λ (ls : List (List ℕ)). length (list_memory (st.lines + 1) m ls)) none in
            let w = b.listed.end in
            absurd
            (stop-cases f.stop (λ s. let a = b.all-used s in omega arith) (λ s. let r = b.no_room s in omega arith) b.stops)
      ]

-- At the script's end a line that has begun gets its newline, and where none has nothing is fed.

module _ {m : List ℕ} {st : State·rt} {out m' out' : List ℕ} {f : Fed·rt} where
  pub feeds-newline : is_empty (kept_line st) ≡ false → FedTo m st (newline ∷ []) out m' out' f → FedTo m st (last_newline st) out m' out' f
  unfolding last_newline
  feeds-newline e g = rw e g

  pub feeds-nothing : is_empty (kept_line st) ≡ true → FedTo m st [] out m' out' f → FedTo m st (last_newline st) out m' out' f
  unfolding last_newline
  feeds-nothing e g = rw e g
