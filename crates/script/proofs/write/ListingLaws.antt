-- A line of the listing: its number, then each number of the report as a field, and the newline. What a step reports is written whole by it: an
-- accepted L sends a descriptor of 1 to 8 words, and no other operation sends any. Assumes nothing.
use Prim.Native.Nat.{ℕ, zero, suc, pred, ◌+◌, ◌-◌, ◌≤◌, ◌<◌}
use native.Mathlib.Numerals.{add-one}
use native.Mathlib.Omega.{arith}
use mathlib.Core.Bool.{Bool, true, false, cond}
use mathlib.Core.List.{List, [], ◌∷◌, ◌++◌, append-nil, append_assoc}
use mathlib.Core.Path.{◌≡◌, refl, sym, ap, ◌∙◌}
use lib.Dec.{eqb}
use lib.ListN.{length, take, get_or}
use lib.Seq.{take-suc}
use borrow.Author.Tests.{eq-eqb, ne_eqb}
use Rattle.rules.specs.Build.{Build, word_limit}
use Rattle.rules.specs.Lists.{pad}
use Rattle.rules.specs.Node.{Node, group_of, timer_runs, empty_group}
use Rattle.rules.specs.Operation.{Request, poll, peek, dispose, begin_atomic, end_atomic, describe, launch, Operation, arrive, schedule, preempt, dispatch, tick, turn, user, unknown, Report}
use Rattle.rules.specs.Refusal.{refusal, refuse_request, refuse_launch}
use Rattle.rules.specs.Script.{newline, header, report_line}
use Rattle.rules.specs.Step.{Effect, valued, extending, launched, serve, act, finish, in_arow, step, ticks, one_tick, timed_out, counted}
use Rattle.rules.specs.Text.{decimal, row}
use Rattle.rules.specs.Types.{sent_of, report_of}
use Rattle.rules.specs.Valid.{GoodGroup, Valid}
use Rattle.rules.specs.declared.Report.{Report as Report·rt}
use Rattle.rules.specs.declared.Sent.{Sent as Sent·rt}
use Rattle.rules.proofs.Steps.ActLaws.{user-accepted}
use Rattle.rules.proofs.Steps.EveryLaws.{every-getD}
use Rattle.rules.proofs.Steps.ListLaws.{take-pad}
use Rattle.rules.proofs.Steps.StepLaws.{step-law}
use Rattle.script.specs.Written.{field, fields, sent_numbers, behind_number, Listed, silent, sending}

-- how long the header is
pub header-length : length header ≡ 36
unfolding header
header-length = refl

-- the fields of numbers behind numbers
pub fields-append : (xs ys : List ℕ) → fields (xs ++ ys) ≡ fields xs ++ fields ys
unfolding fields
fields-append [] ys = refl
fields-append (x ∷ xs) ys = ap (λ (t : List ℕ). field x ++ t) (fields-append xs ys) ∙ sym (append_assoc (field x) (fields xs) (fields ys))

-- of no number
pub fields-none : fields [] ≡ []
unfolding fields
fields-none = refl

-- of one number
pub fields-one : (x : ℕ) → fields (x ∷ []) ≡ field x
unfolding fields
fields-one x = append-nil (field x)

-- of one number more
pub fields-more : (ws : List ℕ) (i : ℕ) → i < length ws → fields (take (i + 1) ws) ≡ fields (take i ws) ++ field (get_or ws i 0)
fields-more ws i h =
    ap (λ (k : ℕ). fields (take k ws)) (add-one i) ∙ ap fields (take-suc ws i 0 h) ∙ fields-append (take i ws) (get_or ws i 0 ∷ [])
    ∙ ap (λ (t : List ℕ). fields (take i ws) ++ t) (fields-one (get_or ws i 0))

-- a row is its first number and the others as fields
pub row-fields : (n : ℕ) (ns : List ℕ) → row (n ∷ ns) ≡ decimal n ++ fields ns
unfolding row fields field
row-fields n [] = sym (append-nil (decimal n))
row-fields n (m ∷ ns) = ap (λ (t : List ℕ). decimal n ++ (44 ∷ t)) (row-fields m ns)

-- nothing was sent
pub sent-none : (s : Sent·rt) → s.len ≡ 0 → sent_numbers s ≡ []
unfolding sent_numbers
sent-none s e = ap (λ (t : Bool). cond t [] (s.node ∷ s.group ∷ take s.len s.words)) (eq-eqb s.len 0 e)

-- node, group and words were
pub sent-some : (s : Sent·rt) → (s.len ≡ 0 → ⊥) → sent_numbers s ≡ s.node ∷ s.group ∷ take s.len s.words
unfolding sent_numbers
sent-some s e = ap (λ (t : Bool). cond t [] (s.node ∷ s.group ∷ take s.len s.words)) (ne_eqb s.len 0 e)

-- they are fields
pub sent-fields : (s : Sent·rt) → (s.len ≡ 0 → ⊥)
    → (field s.node ++ field s.group) ++ fields (take s.len s.words) ≡ fields (sent_numbers s)
unfolding fields
sent-fields s e = append_assoc (field s.node) (field s.group) (fields (take s.len s.words)) ∙ ap fields (sym (sent-some s e))

-- what stands behind a line's number is fields and the newline
pub behind-fields : (r : Report·rt)
    → (fields (r.answer ∷ r.value ∷ r.trap ∷ r.upcall ∷ r.moved ∷ []) ++ fields (sent_numbers r.sent)) ++ (newline ∷ []) ≡ behind_number r
unfolding behind_number
behind-fields r =
    ap (λ (t : List ℕ). t ++ (newline ∷ [])) (sym (fields-append (r.answer ∷ r.value ∷ r.trap ∷ r.upcall ∷ r.moved ∷ []) (sent_numbers r.sent)))

-- what was sent is read back from the report
pub listed-sent : {q : Report} → Listed q → sent_numbers (sent_of q.sent) ≡ q.sent
unfolding sent_numbers
listed-sent {q} (silent e) = ap (λ (s : List ℕ). sent_numbers (sent_of s)) e ∙ sym e
listed-sent {q} (sending k g ws e some few) = ap (λ (s : List ℕ). sent_numbers (sent_of s)) e ∙ whole ∙ sym e
  where
    whole : sent_numbers (sent_of (k ∷ g ∷ ws)) ≡ k ∷ g ∷ ws
    whole =
        let l : length (k ∷ g ∷ ws) - 2 ≡ length ws = omega arith in
        sent-some (sent_of (k ∷ g ∷ ws)) (λ z. omega arith) ∙ ap (λ (m : ℕ). k ∷ g ∷ take m (pad word_limit ws)) l
        ∙ ap (λ (t : List ℕ). k ∷ g ∷ t) (take-pad word_limit ws few)

-- it is at most eight words
pub listed-few : {q : Report} → Listed q → (report_of q).sent.len ≤ word_limit
listed-few {q} (silent e) = let l : length q.sent ≡ 0 = ap length e in omega arith
listed-few {q} (sending k g ws e some few) = let l : length q.sent ≡ suc (suc (length ws)) = ap length e in omega arith

-- a line is its number and what stands behind it
pub line-behind : {q : Report} → Listed q → (i : ℕ) → decimal i ++ behind_number (report_of q) ≡ report_line i q
unfolding behind_number report_line
line-behind {q} h i =
    let before : List ℕ → List ℕ = λ s. q.answer ∷ q.value ∷ q.trap ∷ q.upcall ∷ q.moved ∷ s in
    ap (λ (s : List ℕ). decimal i ++ (fields (before s) ++ (newline ∷ []))) (listed-sent h)
    ∙ sym (append_assoc (decimal i) (fields (before q.sent)) (newline ∷ []))
    ∙ ap (λ (t : List ℕ). t ++ (newline ∷ [])) (sym (row-fields i (before q.sent)))

-- a tick sends nothing
tick-sent : (b : Build) (e : Effect) → (one_tick b e).sent ≡ e.sent
unfolding one_tick timed_out counted
tick-sent b e = either (timer_runs e.node) (eqb (e.node.timer + 1) b.timeout)
  where
    either : (runs t : Bool) → (cond runs (cond t (timed_out b e) (counted e)) e).sent ≡ e.sent
    either true true = refl
    either true false = refl
    either false t = refl

-- nor do ticks
ticks-sent : (b : Build) (k : ℕ) (e : Effect) → (ticks b k e).sent ≡ e.sent
unfolding ticks
ticks-sent b zero e = refl
ticks-sent b (suc k) e = ticks-sent b k (one_tick b e) ∙ tick-sent b e

module _ {b : Build} {n : Node} (v : Valid b n) where
  -- an accepted request
  served-listed : (r : Request) → 1 ≤ n.running → refuse_request n r ≡ 0 → Listed (finish b (serve b n r)).report
  unfolding serve valued extending launched refuse_request refuse_launch finish group_of
  served-listed poll runs e = silent refl
  served-listed (peek i) runs e = silent refl
  served-listed dispose runs e = silent refl
  served-listed (begin_atomic force) runs e = silent refl
  served-listed end_atomic runs e = silent refl
  served-listed (describe w) runs e = silent refl
  served-listed (launch k) runs e = sending k n.running (group_of n n.running).descriptor refl (some (group_of n n.running).descriptor e) few
    where
      some : (d : List ℕ) → refuse_launch d k ≡ 0 → 1 ≤ length d
      some [] z = absurd (omega arith)
      some (w ∷ d) z = omega arith

      few : length (group_of n n.running).descriptor ≤ word_limit
      few = (every-getD (GoodGroup b) n.groups (pred n.running) empty_group v.groups-good (omega (arith, v.running-bound, v.group-count))).descriptor

  -- an operation that acts
  acts-listed : (op : Operation) → refusal b n op ≡ 0 → Listed (finish b (act b n op)).report
  unfolding act valued finish refusal
  acts-listed (arrive g ws) e = silent refl
  acts-listed preempt e = silent refl
  acts-listed (dispatch g) e = silent refl
  acts-listed (schedule g) e = silent refl
  acts-listed (tick k) e = silent (ticks-sent b k (valued 0 n))
  acts-listed turn e = silent refl
  acts-listed (user r) e = let u = user-accepted n r e in served-listed r u.0 u.1
  acts-listed unknown e = silent refl

-- what a step reports can be listed
pub step-listed : {b : Build} {n : Node} → Valid b n → (op : Operation) → Listed (step b n op).report
unfolding act valued finish in_arow
step-listed {b} =
    step-law (λ n op s. Listed s.report)
    (record {
      refuses = λ n v op r e. silent refl;
      acts = λ n v op one e. acts-listed v op e;
      still = λ n v. silent refl;
      takes = λ n v runs took. took;
      switches = λ n v g other some high took gave. silent refl;
    })
