-- What is told of those that leave in a line. Assumes nothing.
use Prim.Native.Nat.{ℕ, zero, suc, ◌+◌, ◌*◌, ◌≤◌, ◌<◌}
use native.Mathlib.Omega.{arith}
use native.Mathlib.Numerals.{add-one}
use mathlib.Core.Bool.{Bool, cond}
use mathlib.Core.List.{List, [], ◌∷◌, ◌++◌, append-nil, append_assoc}
use mathlib.Core.Path.{◌≡◌, refl, sym, ap, ◌∙◌}
use lib.Dec.{eqb, ltb}
use lib.ListN.{length, take, drop, get_or, get_or-replicate}
use lib.Seq.{take_all}
use mathlib.Core.Logic.{◌⊎◌, inl, inr, ⊎_elim}
use borrow.Author.Tests.{ltb-false, ltb-true, ne_eqb}
use Rattle.rules.specs.Build.{paper01}
use Rattle.reasons.specs.ByPlace.{leaving}
use Rattle.reasons.specs.Follow.{Seen, Telling, telling_lines, tellings, waiting_after, waiting_with}
use Rattle.reasons.specs.Why.{why_line}
use Rattle.script.specs.Written.{Appended}
use Rattle.script.proofs.read.LineEndLaws.{by-test}
use Rattle.script.proofs.write.AppendedLaws.{appended-as, appended-none, appended_then}
use Rattle.std.specs.Prelude.{None, Some, is_some}
use Rattle.follow.specs.Seen.{Sees, reasons_of}
use Rattle.follow.specs.Text.{why_room}
use Rattle.follow.specs.Waiting.{LineTold, lines_room}
use Rattle.follow.specs.declared.seen.Line.{Line as Line·rt}
use Rattle.follow.specs.declared.seen.Leaving.{Leaving as Leaving·rt}
use Rattle.follow.proofs.one.PlaceLaws.{length-leaving, length-reasons}

-- none leaves
tellings-none : (i : ℕ) (ws : List ℕ) → tellings i ws [] ≡ []
unfolding tellings
tellings-none i [] = refl
tellings-none i (w ∷ ws) = refl

-- one more
tellings-more : (i k : ℕ) (ws rs : List ℕ) → k < length ws → k < length rs
    → tellings i (take (suc k) ws) rs ≡ tellings i (take k ws) rs ++ (record { arrival = get_or ws k 0; reason = get_or rs k 0; line = i } ∷ [])
unfolding tellings
tellings-more i k [] rs h g = absurd (omega arith)
tellings-more i k (w ∷ ws) [] h g = absurd (omega arith)
tellings-more i zero (w ∷ ws) (r ∷ rs) h g = refl
tellings-more i (suc k) (w ∷ ws) (r ∷ rs) h g =
    ap (λ (ts : List Telling). record { arrival = w; reason = r; line = i } ∷ ts) (tellings-more i k ws rs (omega arith) (omega arith))

-- all that leave
tellings-all : (i n : ℕ) (ws rs : List ℕ) → length rs ≤ n → tellings i (take n ws) rs ≡ tellings i ws rs
unfolding tellings
tellings-all i n ws [] h = tellings-none i (take n ws) ∙ sym (tellings-none i ws)
tellings-all i zero ws (r ∷ rs) h = absurd (omega arith)
tellings-all i (suc n) [] (r ∷ rs) h = refl
tellings-all i (suc n) (w ∷ ws) (r ∷ rs) h =
    ap (λ (ts : List Telling). record { arrival = w; reason = r; line = i } ∷ ts) (tellings-all i n ws rs (omega arith))

-- as text
pub lines-append : (ts us : List Telling) → telling_lines (ts ++ us) ≡ telling_lines ts ++ telling_lines us
unfolding telling_lines
lines-append [] us = refl
lines-append (t ∷ ts) us =
    ap (λ (bs : List ℕ). why_line t.arrival t.reason t.line ++ bs) (lines-append ts us)
    ∙ sym (append_assoc (why_line t.arrival t.reason t.line) (telling_lines ts) (telling_lines us))

lines-one : (w r i : ℕ) → telling_lines (record { arrival = w; reason = r; line = i } ∷ []) ≡ why_line w r i
unfolding telling_lines
lines-one w r i = append-nil (why_line w r i)

-- the reason at a place
reason-at : (n a b k : ℕ) → k < n → cond (eqb k 0) a b ≡ get_or (leaving n a b) k 0
unfolding leaving
reason-at zero a b k h = absurd (omega arith)
reason-at (suc n) a b zero h = refl
reason-at (suc n) a b (suc k) h = rw (ne_eqb (suc k) 0 (λ e. omega arith)) (sym (get_or-replicate {A = ℕ} n k b 0 (omega arith)))

-- how many of those that wait leave
pub record Fewer (count left n : ℕ) : Type 0 where
  pub waiting : n ≤ count
  pub leaving : n ≤ left
  pub all : (left ≤ n) ⊎ (count ≤ n)

pub fewer-said : (count left : ℕ) {n : ℕ} → n ≡ cond (ltb left count) left count → Fewer count left n
fewer-said count left {n} e =
    by-test (ltb left count)
    (λ q. let f : n ≡ left = e ∙ ap (λ (t : Bool). cond t left count) q in let h = ltb-true left count q in record { waiting = omega arith; leaving = omega arith; all = inl (omega arith) })
    (λ q. let f : n ≡ count = e ∙ ap (λ (t : Bool). cond t left count) q in let h = ltb-false left count q in record { waiting = omega arith; leaving = omega arith; all = inr (omega arith) })

-- the lines of the first k of those that leave are written
pub record Putting (out : List ℕ) (at : ℕ) (ws : List ℕ) (i : ℕ) (g : Leaving·rt) (out' : List ℕ) (end k : ℕ) : Type 0 where
  pub put : Appended out at out' end (telling_lines (tellings i (take k ws) (reasons_of (Some g))))
  pub at_most : end ≤ at + why_room * k

module _ (out : List ℕ) (at : ℕ) (ws : List ℕ) (i : ℕ) (g : Leaving·rt) where
  pub putting-start : Putting out at ws i g out at 0
  unfolding tellings telling_lines
  putting-start = record { put = appended-none out at; at_most = omega arith }

  module _ {out₁ : List ℕ} {end k : ℕ} (p : Putting out at ws i g out₁ end k) where
    pub putting-more : k < length ws → k < g.count → {out₂ : List ℕ} {end₂ : ℕ} (w r : ℕ) → w ≡ get_or ws k 0 → r ≡ cond (eqb k 0) g.first g.later
        → Appended out₁ end out₂ end₂ (why_line w r i) → end₂ ≤ end + why_room → Putting out at ws i g out₂ end₂ (k + 1)
    putting-more waits leaves w r ew er a few =
        let rs = reasons_of (Some g) in
        let n = length-leaving g.count g.first g.later in
        let reason : r ≡ get_or rs k 0 = er ∙ reason-at g.count g.first g.later k leaves in
        let line : why_line w r i ≡ telling_lines (record { arrival = get_or ws k 0; reason = get_or rs k 0; line = i } ∷ []) =
        ap (λ (x : ℕ). why_line x r i) ew ∙ ap (λ (x : ℕ). why_line (get_or ws k 0) x i) reason ∙ sym (lines-one (get_or ws k 0) (get_or rs k 0) i) in
        record {
          put = appended-as (appended_then p.put (appended-as a line))
              (sym (lines-append (tellings i (take k ws) rs) (record { arrival = get_or ws k 0; reason = get_or rs k 0; line = i } ∷ []))
              ∙ ap telling_lines (sym (tellings-more i k ws rs waits (omega arith)) ∙ ap (λ (j : ℕ). tellings i (take j ws) rs) (sym (add-one k))));
          at_most = let m = p.at_most in omega arith;
        }

    pub putting-end : Fewer (length ws) g.count k → Appended out at out₁ end (telling_lines (tellings i ws (reasons_of (Some g))))
    putting-end f =
        let rs = reasons_of (Some g) in
        let n = length-leaving g.count g.first g.later in
        appended-as p.put
        (ap telling_lines (⊎_elim (λ h. tellings-all i k ws rs (omega arith)) (λ h. ap (λ (x : List ℕ). tellings i x rs) (take_all k ws h)) f.all))

-- A line.

module _ (w : List ℕ) (count i : ℕ) (l : Line·rt) where
  -- those that wait once its message has joined
  with-seen : {s : Seen} → Sees l s → {x : List ℕ} → x ≡ take paper01.places (take count w ++ cond (is_some l.queued) (i ∷ []) []) → x ≡ waiting_with i s (take count w)
  unfolding waiting_with
  with-seen v e = e ∙ ap (λ (t : Bool). take paper01.places (take count w ++ cond t (i ∷ []) [])) v.arrival

  module _ {out : List ℕ} {at : ℕ} (n : ℕ) (w₁ : List ℕ) (joins : take n w₁ ≡ take paper01.places (take count w ++ cond (is_some l.queued) (i ∷ []) [])) (few : n ≤ paper01.places) where
    -- none leaves
    pub line_quiet : l.leaving ≡ None → LineTold w count i l out at w₁ out (record { count = n; end = at })
    unfolding waiting_after telling_lines leaving
    line_quiet none =
        let quiet : (s : Seen) → Sees l s → s.reasons ≡ [] = λ s v. v.reasons ∙ ap reasons_of none in
        record {
          waits = λ s v. with-seen v joins ∙ sym (ap (λ (rs : List ℕ). drop (length rs) (waiting_with i s (take count w))) (quiet s v));
          few = few;
          told = λ s v. appended-as (appended-none out at)
              (sym (ap telling_lines (ap (tellings i (waiting_with i s (take count w))) (quiet s v) ∙ tellings-none i (waiting_with i s (take count w)))));
          at_most = omega arith;
        }

    -- some leave
    pub line-left : (g : Leaving·rt) → l.leaving ≡ Some g → {out' : List ℕ} {end m : ℕ} {w₂ : List ℕ}
        → Appended out at out' end (telling_lines (tellings i (take n w₁) (reasons_of (Some g)))) → end ≤ at + lines_room
        → take m w₂ ≡ drop g.count (take n w₁) → m ≤ n → LineTold w count i l out at w₂ out' (record { count = m; end = end })
    unfolding waiting_after
    line-left g some a room e less =
        record {
          waits = λ s v.
              let k : g.count ≡ length s.reasons = sym (ap length (v.reasons ∙ ap reasons_of some) ∙ length-reasons (Some g)) in
              e ∙ ap (λ (x : List ℕ). drop g.count x) (with-seen v joins) ∙ ap (λ (j : ℕ). drop j (waiting_with i s (take count w))) k;
          few = omega arith;
          told = λ s v. appended-as a
              (ap telling_lines (ap (λ (x : List ℕ). tellings i x (reasons_of (Some g))) (with-seen v joins)
              ∙ ap (tellings i (waiting_with i s (take count w))) (sym (v.reasons ∙ ap reasons_of some))));
          at_most = room;
        }
