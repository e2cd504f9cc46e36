-- Why a message was buffered, asked for by a call: the script is one portion, for which there are line numbers enough, so that what is told and what is
-- left are those of the script; and the words told, one behind the other. Assumes nothing.
use Prim.Native.Nat.{ℕ, suc, ◌/◌, ◌%◌, ◌+◌, ◌≤◌, ◌<◌}
use native.Mathlib.Omega.{arith}
use mathlib.Core.Bool.{Bool, true, false}
use mathlib.Core.List.{List, [], ◌∷◌, ◌++◌, append-nil}
use mathlib.Core.Path.{◌≡◌, ◌∙◌, ap, refl, subst, sym}
use lib.Dec.{eqb, leb}
use lib.ListN.{length, drop, set, take}
use borrow.Author.Tests.{leb-true}
use Rattle.rules.specs.Memory.{size}
use Rattle.rules.specs.MemoryTest.{MemoryStep, power_on_memory, step_memory}
use Rattle.rules.specs.Operation.{Operation, not_node, refused}
use Rattle.rules.specs.Script.{newline, script_lines}
use Rattle.rules.specs.declared.Report.{Report as Report·rt}
use Rattle.reasons.specs.Why.{Told, untold, why}
use Rattle.memory.specs.Answers.{Answers}
use Rattle.memory.proofs.WriteLaws.{wrote-set, wrote-next}
use Rattle.script.specs.Feed.{kept_room, last_number}
use Rattle.script.specs.Feeding.{after_lines, begun, last_line, lines_behind, rest_behind, whole}
use Rattle.script.proofs.PortionLaws.{after-append, join_lines, lines-ended, whole-newline, whole-nil, whole-other}
use Rattle.script.proofs.feed.BegunLaws.{kept-reads}
use Rattle.script.proofs.feed.FedLaws.{lines_none}
use Rattle.follow.specs.One.{Finished, FollowedTo, told_of}
use Rattle.follow.specs.Portions.{New, Portion, Follows, bytes_of, last_memory, last_state}
use Rattle.follow.proofs.PortionsLaws.{portions-told}
use Rattle.follow.specs.declared.one.State.{State as State·rt}
use Rattle.follow.specs.declared.one.Told.{Told as Told·rt}
use Rattle.capi.specs.Why.{TellsWhy, WhyAnswers, WhyStep, why_memory, why_room, why_words, word_numbers}
use Rattle.capi.proofs.ToldLaws.{front-written}

-- no more lines are whole than there are bytes
whole-few : (s : List ℕ) → length (whole s) ≤ length s
whole-few [] = rw whole-nil (omega arith)
whole-few (x ∷ xs) = go (eqb x newline) refl (whole-few xs)
  where
    same_count : (ls : List (List ℕ)) → length (join_lines x ls) ≡ length ls
    same_count [] = refl
    same_count (l ∷ ls) = refl

    go : (t : Bool) → eqb x newline ≡ t → length (whole xs) ≤ length xs → length (whole (x ∷ xs)) ≤ suc (length xs)
    go true e few = rw (whole-newline x xs e).0 (omega arith)
    go false e few = rw (whole-other x xs e).0 (omega (arith, same_count (whole xs)))

-- what is kept of a line that has begun serves as the script's last
last-kept : (m b : List ℕ) → after_lines m (last_line (take kept_room b)) ≡ after_lines m (last_line b)
unfolding last_line after_lines
last-kept m [] = refl
last-kept m (x ∷ b) = ap (λ (o : Operation). (step_memory m o).memory) (kept-reads (x ∷ b))

-- A whole script followed in one call, and ended.

module _ (m s : List ℕ) {w : ℕ} {st : State·rt} {m₁ : List ℕ} {st₁ : State·rt} {m' : List ℕ} {t : Told·rt} (long : size ≤ length m)
    (few : length s + 1 < last_number) (new : New st w) (f : FollowedTo (power_on_memory m).memory st s m₁ st₁) (e : Finished m₁ st₁ m' t) where
  enough : st.script.lines + length s < last_number
  enough = let n = new.none in omega arith

  number : st₁.script.lines + 1 < last_number
  number =
      let n = new.none in
      let c : st₁.script.lines ≡ st.script.lines + length (whole s) =
      (f.enough enough).counted ∙ ap (λ (b : List ℕ). st.script.lines + length (lines_behind b s)) new.empty
      ∙ ap (λ (ls : List (List ℕ)). st.script.lines + length ls) (lines_none s).0 in
      omega (arith, whole-few s)

  script-left : m' ≡ after_lines (power_on_memory m).memory (script_lines s)
  script-left =
      let m₀ = (power_on_memory m).memory in
      let p = f.enough enough in
      let kept = p.kept ∙ ap (λ (b : List ℕ). take kept_room (rest_behind b s)) new.empty ∙ ap (take kept_room) (lines_none s).1 in
      let first = p.memory ∙ ap (λ (b : List ℕ). after_lines m₀ (lines_behind b s)) new.empty ∙ ap (after_lines m₀) (lines_none s).0 in
      (e.enough number).memory ∙ ap (λ (b : List ℕ). after_lines m₁ (last_line b)) kept ∙ last-kept m₁ (begun s)
      ∙ ap (λ (x : List ℕ). after_lines x (last_line (begun s))) first
      ∙ sym (after-append m₀ (whole s) (last_line (begun s)))
      ∙ ap (after_lines m₀) (sym (lines-ended s))

  script-why : told_of t ≡ why s w
  unfolding Follows bytes_of last_memory last_state
  script-why =
      let p : Portion = record { input = s; memory-after = m₁; state-after = st₁ } in
      portions-told.told m s w st (p ∷ []) m' t
      (record { long = long; new = new; follows = (f, (enough, tt)); read = append-nil s })
      (record { number = number; finishes = e })

-- Memory that is too short is refused by power-on, and no other.

module _ (m : List ℕ) where
  power-short : leb size (length m) ≡ false → power_on_memory m ≡ record { report = refused not_node; memory = m }
  unfolding power_on_memory
  power-short e = rw (e, power_on_memory)

  power-long : leb size (length m) ≡ true → (power_on_memory m).report.answer ≡ 0
  unfolding power_on_memory
  power-long e = rw (e, power_on_memory)

module _ (m s : List ℕ) (w : ℕ) where
  why-short : leb size (length m) ≡ false → why_memory m s w ≡ record { told = untold not_node; memory = m }
  unfolding why_memory
  why-short e = rw (e, why_memory)

  why-long : leb size (length m) ≡ true
      → why_memory m s w ≡ record { told = why s w; memory = after_lines (power_on_memory m).memory (script_lines s) }
  unfolding why_memory
  why-long e = rw (e, why_memory)

  pub asked-refused : {m' : List ℕ} {r : Report·rt} {t : Told·rt} → Answers m' r (power_on_memory m) → (r.answer ≡ 0 → ⊥) → told_of t ≡ untold not_node
      → WhyAnswers m' t (why_memory m s w)
  asked-refused {m'} {r} {t} a some refused = go (leb size (length m)) refl
    where
      go : (b : Bool) → leb size (length m) ≡ b → WhyAnswers m' t (why_memory m s w)
      go true e = absurd (some (ap (λ (x : Report·rt). x.answer) a.reported ∙ power-long m e))
      go false e =
          rw (why-short e)
          (record {
            told = refused;
            left = a.left ∙ ap (λ (p : MemoryStep). p.memory) (power-short m e);
          })

  pub asked-played : {m₀ : List ℕ} {r : Report·rt} {st : State·rt} {m₁ : List ℕ} {st₁ : State·rt} {m' : List ℕ} {t : Told·rt} → length s + 1 < last_number
      → Answers m₀ r (power_on_memory m) → r.answer ≡ 0 → New st w → FollowedTo m₀ st s m₁ st₁ → Finished m₁ st₁ m' t → WhyAnswers m' t (why_memory m s w)
  asked-played {st = st} {m₁} {st₁} {m'} {t} few a accepted new f e = go (leb size (length m)) refl
    where
      go : (b : Bool) → leb size (length m) ≡ b → WhyAnswers m' t (why_memory m s w)
      go true l =
          let long = leb-true size (length m) l in
          let g = subst (λ (x : List ℕ). FollowedTo x st s m₁ st₁) a.left f in
          rw (why-long l) (record { told = script-why m s long few new g e; left = script-left m s long few new g e })
      go false l =
          absurd
          (let z : 0 ≡ not_node = sym accepted ∙ ap (λ (x : Report·rt). x.answer) a.reported ∙ ap (λ (p : MemoryStep). p.report.answer) (power-short m l) in
          omega arith)

-- The words.

pub why-written : (p : List ℕ) (t : Told·rt) → why_room ≤ length p
    → set (set (set (set p 0 t.answer) 1 t.reason) 2 (t.line % word_numbers)) 3 (t.line / word_numbers) ≡ why_words (told_of t) ++ drop why_room p
unfolding why_words
why-written p t long =
    let w0 = wrote-set p 0 t.answer (omega arith) in
    let w1 = wrote-next w0 1 t.reason refl (omega arith) in
    let w2 = wrote-next w1 2 (t.line % word_numbers) refl (omega arith) in
    let w3 = wrote-next w2 3 (t.line / word_numbers) refl (omega arith) in
    front-written why_room refl long w3

-- told
pub why-told : {m p m' p' : List ℕ} {s : WhyStep} {t : Told·rt} → why_room ≤ length p → WhyAnswers m' t s → p' ≡ why_words (told_of t) ++ drop why_room p
    → TellsWhy m p s m' p' why_room
why-told {p = p} long a e =
    record {
      memory = λ h. a.left;
      told = λ h. e ∙ ap (λ (x : Told). why_words x ++ drop why_room p) a.told;
      counted = λ h. refl;
      memory_kept = λ h. absurd (omega arith);
      part-kept = λ h. absurd (omega arith);
      nothing = λ h. absurd (omega arith);
    }

-- or not
pub why-nothing : (m p : List ℕ) (s : WhyStep) → length p < why_room → TellsWhy m p s m p 0
why-nothing m p s short =
    record {
      memory = λ h. absurd (omega arith);
      told = λ h. absurd (omega arith);
      counted = λ h. absurd (omega arith);
      memory_kept = λ h. refl;
      part-kept = λ h. refl;
      nothing = λ h. refl;
    }
