-- What is told in a lent part: a report's words, one behind the other, or nothing where they have no room. Assumes nothing.
use Prim.Native.Nat.{ℕ, ◌≤◌, ◌<◌}
use native.Mathlib.Omega.{arith}
use mathlib.Core.List.{List, ◌++◌}
use mathlib.Core.Path.{◌≡◌, ◌∙◌, ap, refl, sym}
use lib.ListN.{length, drop, set}
use Rattle.rules.specs.MemoryTest.{MemoryStep}
use Rattle.rules.specs.declared.Report.{Report as Report·rt}
use Rattle.rules.proofs.Map.MapWords.{Stands, stands-front}
use Rattle.memory.specs.Answers.{Answers}
use Rattle.memory.specs.Writes.{Wrote}
use Rattle.memory.proofs.PieceLaws.{same_drop}
use Rattle.memory.proofs.WriteLaws.{wrote-set, wrote-next, wrote_then}
use Rattle.capi.specs.Told.{report_room, report_words, Reports, pair_room, TellsPair}

-- a part whose first words are written is these words and what stood behind them
pub front-written : {p p' ws : List ℕ} (k : ℕ) → length ws ≡ k → k ≤ length p → Wrote p p' 0 ws → p' ≡ ws ++ drop k p
unfolding Stands
front-written {p} {p'} {ws} k l long w =
    let e = stands-front p' ws (omega (arith, w.same_length)) w.here in
    sym e ∙ ap (λ (j : ℕ). ws ++ drop j p') l
    ∙ ap (λ (t : List ℕ). ws ++ t) (same_drop p p' k w.same_length (λ b h. w.above b (omega arith)))

-- a report's first eight words, stored one by one
abbrev stored : List ℕ → Report·rt → List ℕ
stored p r =
    set
    (set (set (set (set (set (set (set p 0 r.answer) 1 r.value) 2 r.trap) 3 r.upcall) 4 r.moved) 5 r.sent.node) 6 r.sent.group)
    7
    r.sent.len

-- then the words that were sent
pub report-written : (p : List ℕ) {p' : List ℕ} (r : Report·rt) → report_room ≤ length p → length r.sent.words ≡ 8
    → Wrote (stored p r) p' 8 r.sent.words
    → p' ≡ report_words r ++ drop report_room p
unfolding report_words
report-written p r long eight w =
    let w0 = wrote-set p 0 r.answer (omega arith) in
    let w1 = wrote-next w0 1 r.value refl (omega arith) in
    let w2 = wrote-next w1 2 r.trap refl (omega arith) in
    let w3 = wrote-next w2 3 r.upcall refl (omega arith) in
    let w4 = wrote-next w3 4 r.moved refl (omega arith) in
    let w5 = wrote-next w4 5 r.sent.node refl (omega arith) in
    let w6 = wrote-next w5 6 r.sent.group refl (omega arith) in
    let w7 = wrote-next w6 7 r.sent.len refl (omega arith) in
    front-written report_room (omega arith) long (wrote_then w7 8 refl w)

-- a step taken, and its report told
pub reports-told : {m p m' p' : List ℕ} {s : MemoryStep} {r : Report·rt} → report_room ≤ length p → Answers m' r s
    → p' ≡ report_words r ++ drop report_room p
    → Reports m p s m' p' report_room
reports-told {p = p} long a e =
    record {
      memory = λ h. a.left;
      report = λ h. e ∙ ap (λ (t : Report·rt). report_words t ++ drop report_room p) a.reported;
      counted = λ h. refl;
      memory_kept = λ h. absurd (omega arith);
      part-kept = λ h. absurd (omega arith);
      nothing = λ h. absurd (omega arith);
    }

-- or not taken
pub reports-nothing : (m p : List ℕ) (s : MemoryStep) → length p < report_room → Reports m p s m p 0
reports-nothing m p s short =
    record {
      memory = λ h. absurd (omega arith);
      report = λ h. absurd (omega arith);
      counted = λ h. absurd (omega arith);
      memory_kept = λ h. refl;
      part-kept = λ h. refl;
      nothing = λ h. refl;
    }

-- two numbers told
pub pair-told : (x y : ℕ) (p : List ℕ) → pair_room ≤ length p → TellsPair x y p (set (set p 0 x) 1 y) pair_room
pair-told x y p long =
    let w0 = wrote-set p 0 x (omega arith) in
    let w1 = wrote-next w0 1 y refl (omega arith) in
    record {
      told = λ l. front-written pair_room refl long w1;
      counted = λ l. refl;
      part-kept = λ l. absurd (omega arith);
      nothing = λ l. absurd (omega arith);
    }

-- or not
pub pair-nothing : (x y : ℕ) (p : List ℕ) → length p < pair_room → TellsPair x y p p 0
pair-nothing x y p short =
    record { told = λ l. absurd (omega arith); counted = λ l. absurd (omega arith); part-kept = λ l. refl; nothing = λ l. refl }
