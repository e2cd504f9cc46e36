-- The next line of a portion: where it stands, or from what is kept. Assumes nothing.
use Prim.Native.Nat.{ℕ, suc, ◌+◌, ◌-◌, ◌≤◌, ◌<◌}
use native.Mathlib.Omega.{arith}
use mathlib.Core.Bool.{Bool}
use mathlib.Core.List.{List, [], ◌∷◌, ◌++◌}
use mathlib.Core.Path.{◌≡◌, refl, sym, ap, subst, ◌∙◌}
use lib.Dec.{eqb}
use lib.ListN.{length, take, drop, set}
use lib.Seq.{set_split}
use Rattle.rules.specs.MemoryTest.{step_memory}
use Rattle.rules.specs.Operation.{Operation}
use Rattle.rules.specs.Script.{newline, read_line}
use Rattle.script.specs.Feed.{kept_room}
use Rattle.script.specs.Read.{OneLine, line_end, line_of}
use Rattle.script.proofs.OneLineLaws.{line-front, line-newline, line_other, one-append, one_of, one-take}
use Rattle.script.proofs.feed.BegunLaws.{kept-reads}
use Rattle.script.proofs.play.CutLaws.{grown}
use Rattle.script.proofs.read.LineEndLaws.{by-test}
use Rattle.follow.specs.Seen.{LineStepped, Sees, seen_on, seen_step}
use Rattle.follow.specs.Portion.{Goes}
use Rattle.follow.specs.declared.seen.Line.{Line as Line·rt}

-- a line with its newline is the line of the text that it begins
line-ended : (t r : List ℕ) → OneLine t → line_of (t ++ (newline ∷ r)) ≡ t
line-ended [] r one = line-newline newline r refl
line-ended (x ∷ xs) r one =
    by-test (eqb x newline)
    (λ q. absurd (let e = ap length (sym (line-newline x xs q) ∙ one) in omega arith))
    (λ q. let e : x ∷ line_of xs ≡ x ∷ xs = sym (line_other x xs q) ∙ one in
    line_other x (xs ++ (newline ∷ r)) q ∙ ap (λ (l : List ℕ). x ∷ l) (line-ended xs r (cc)))

-- where it gets its newline
pub line_set : (kept : List ℕ) (n : ℕ) → n < length kept → OneLine (take n kept) → line_of (set kept n newline) ≡ take n kept
line_set kept n inside one = ap line_of (set_split kept n newline inside) ∙ line-ended (take n kept) (drop (suc n) kept) one

-- a line that is read the same is stepped the same
pub stepped-as : {m l l' : List ℕ} {behind : ℕ} {m' : List ℕ} {t : Line·rt} → read_line l ≡ read_line l' → LineStepped m l behind m' t → {next behind' : ℕ} → next ≡ behind'
    → LineStepped m l' behind' m' (record { next = next; answer = t.answer; queued = t.queued; leaving = t.leaving })
unfolding seen_on
stepped-as {m} {t = t} e g n =
    let s = subst (λ (o : Operation). Sees t (seen_step m o)) e g.sees in
    record {
      next = n;
      memory = g.memory ∙ ap (λ (o : Operation). (step_memory m o).memory) e;
      sees = record { answer = s.answer; arrival = s.arrival; queued = s.queued; reasons = s.reasons; few = s.few };
    }

module _ {m : List ℕ} {good : Bool} {kept : List ℕ} {count : ℕ} {u : List ℕ} {at : ℕ} {fields : List ℕ} (h : Goes m good kept count u at fields) where
  -- the line ends in the text
  pub ends-inside : line_end u at < length u
  unfolding line_end
  ends-inside = let g = (grown u at at (omega arith) h.inside h.lines).inside in omega arith

  pub end-behind : at ≤ line_end u at
  unfolding line_end
  end-behind = omega arith

  -- where none has begun
  pub next-first : {m' : List ℕ} {t : Line·rt} → count ≡ 0 → LineStepped m (line_of (drop at u)) (line_end u at + 1) m' t
      → LineStepped m (take count kept ++ line_of (drop at u)) (line_end u at + 1) m' t
  next-first {m'} {t} e g = subst (λ (n : ℕ). LineStepped m (take n kept ++ line_of (drop at u)) (line_end u at + 1) m' t) (sym e) g

  -- what is kept of the line that goes on
  module _ (end n : ℕ) (kept₁ : List ℕ) (e : end ≡ line_end u at) (k : take n kept₁ ≡ take kept_room (take count kept ++ take (end - at) (drop at u))) where
    grown-line : take (end - at) (drop at u) ≡ line_of (drop at u)
    unfolding line_end
    grown-line = let d : end - at ≡ length (line_of (drop at u)) = omega arith in ap (λ (j : ℕ). take j (drop at u)) d ∙ line-front (drop at u)

    grown-kept : take n kept₁ ≡ take kept_room (take count kept ++ line_of (drop at u))
    grown-kept = k ∙ ap (λ (l : List ℕ). take kept_room (take count kept ++ l)) grown-line

    grown-reads : n < length kept₁ → read_line (line_of (set kept₁ n newline)) ≡ read_line (take count kept ++ line_of (drop at u))
    grown-reads inside =
        let whole = one-append (take count kept) (line_of (drop at u)) h.one (one_of (drop at u)) in
        let one : OneLine (take n kept₁) = subst OneLine (sym grown-kept) (one-take kept_room (take count kept ++ line_of (drop at u)) whole) in
        ap read_line (line_set kept₁ n inside one ∙ grown-kept) ∙ kept-reads (take count kept ++ line_of (drop at u))

    pub next-begun : {behind : ℕ} {m' : List ℕ} {t : Line·rt} → n < length kept₁ → LineStepped m (line_of (set kept₁ n newline)) behind m' t
        → LineStepped m (take count kept ++ line_of (drop at u)) (line_end u at + 1) m'
        (record { next = end + 1; answer = t.answer; queued = t.queued; leaving = t.leaving })
    next-begun inside g = stepped-as (grown-reads inside) g (ap (λ (j : ℕ). j + 1) e)

-- it ends behind its beginning
pub next-forward : {m l : List ℕ} (u : List ℕ) (at : ℕ) {m' : List ℕ} {t : Line·rt} → LineStepped m l (line_end u at + 1) m' t → at < t.next
unfolding line_end
next-forward u at g = let e = g.next in omega arith
