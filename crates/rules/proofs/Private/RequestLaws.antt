-- The user's operations, refused and accepted, are those of the private line: over a list of messages, a flag and a descriptor, whatever
-- group and node they belong to. Assumes nothing.
use Prim.Native.Nat.{ℕ, suc}
use native.Mathlib.Omega.{arith}
use mathlib.Core.Path.{◌≡◌, refl, ap}
use mathlib.Core.Bool.{Bool, true, false, cond}
use mathlib.Core.List.{List, [], ◌∷◌, ◌++◌}
use borrow.Author.Tests.{leb-true, leb-false, lt-ltb, le-ltb}
use lib.Dec.{leb, ltb}
use lib.ListN.{length, get_or, drop}
use Rattle.rules.specs.Lists.{is_empty}
use Rattle.rules.specs.Build.{word_limit, last_node}
use Rattle.rules.specs.Node.{Message}
use Rattle.rules.specs.Operation.{accepted, past_message, still_pending, descriptor_full, bad_node}
use Rattle.rules.specs.Refusal.{refuse_peek, refuse_dispose, refuse_end, refuse_describe, refuse_launch}
use Rattle.rules.specs.Step.{first_length, first_word}
use Rattle.rules.specs.Private.{PrivateLine, Served, says, refuses, unchanged, own_poll, own_peek, own_dispose, with_atomic, own_end, with_own_descriptor, own_describe, own_launch}

-- zero is no refusal's number
pub zero-suc : {A : Type 0} {r : ℕ} → 0 ≡ suc r → A
zero-suc e = absurd (omega arith)

pub suc-zero : {A : Type 0} {r : ℕ} → suc r ≡ 0 → A
suc-zero e = absurd (omega arith)

-- M
pub poll-accepted : (ms : List Message) → own_poll ms ≡ says (first_length ms)
unfolding own_poll first_length
poll-accepted [] = refl
poll-accepted (m ∷ ms) = refl

-- E
pub peek-refused : (ms : List Message) (i r : ℕ) → refuse_peek ms i ≡ suc r → own_peek ms i ≡ refuses (suc r)
unfolding refuse_peek own_peek
peek-refused [] i r e = ap refuses e
peek-refused (m ∷ ms) i r h = go (leb (length m.words) i) refl h
  where
    go : (t : Bool)
        → leb (length m.words) i ≡ t
        → cond t past_message accepted ≡ suc r
        → cond (ltb i (length m.words)) (says (get_or m.words i 0)) (refuses past_message) ≡ refuses (suc r)
    go true t e = rw (le-ltb i (length m.words) (leb-true _ _ t)) (ap refuses e)
    go false t e = zero-suc e

pub peek-accepted : (ms : List Message) (i : ℕ) → refuse_peek ms i ≡ 0 → own_peek ms i ≡ says (first_word ms i)
unfolding refuse_peek own_peek first_word
peek-accepted [] i e = suc-zero e
peek-accepted (m ∷ ms) i h = go (leb (length m.words) i) refl h
  where
    go : (t : Bool)
        → leb (length m.words) i ≡ t
        → cond t past_message accepted ≡ 0
        → cond (ltb i (length m.words)) (says (get_or m.words i 0)) (refuses past_message) ≡ says (get_or m.words i 0)
    go true t e = suc-zero e
    go false t e = rw (lt-ltb i (length m.words) (leb-false _ _ t)) refl

-- D
pub dispose-refused : (ms : List Message) (p : PrivateLine) (r : ℕ) → refuse_dispose ms ≡ suc r → own_dispose ms p ≡ unchanged (refuses (suc r)) p
unfolding refuse_dispose own_dispose
dispose-refused [] p r e = ap (λ (a : ℕ). unchanged (refuses a) p) e
dispose-refused (m ∷ ms) p r e = zero-suc e

pub dispose-accepted : (ms : List Message) (p : PrivateLine) → refuse_dispose ms ≡ 0
    → own_dispose ms p
    ≡ record {
      answer = says 0;
      line = record { has = p.has; atomic = p.atomic; pending = false; messages = drop 1 ms; descriptor = p.descriptor };
    }
unfolding refuse_dispose own_dispose
dispose-accepted [] p e = suc-zero e
dispose-accepted (m ∷ ms) p e = refl

-- D is accepted where there is a message
pub dispose-some : (ms : List Message) → refuse_dispose ms ≡ 0 → is_empty ms ≡ false
unfolding refuse_dispose
dispose-some [] e = suc-zero e
dispose-some (m ∷ ms) e = refl

-- N
pub end_refused : (p : PrivateLine) (r : ℕ) → refuse_end p.pending ≡ suc r → own_end p ≡ unchanged (refuses (suc r)) p
unfolding refuse_end own_end
end_refused p r = go p.pending
  where
    go : (t : Bool)
        → cond t still_pending accepted ≡ suc r
        → cond t (unchanged (refuses still_pending) p) (record { answer = says 0; line = with_atomic false p }) ≡ unchanged (refuses (suc r)) p
    go true e = ap (λ (a : ℕ). unchanged (refuses a) p) e
    go false e = zero-suc e

pub end-accepted : (p : PrivateLine) → refuse_end p.pending ≡ 0 → own_end p ≡ record { answer = says 0; line = with_atomic false p }
unfolding refuse_end own_end
end-accepted p = go p.pending
  where
    go : (t : Bool)
        → cond t still_pending accepted ≡ 0
        → ◌≡◌ {A = Served} (cond t (unchanged (refuses still_pending) p) (record { answer = says 0; line = with_atomic false p })) (record { answer = says 0; line = with_atomic false p })
    go true e = suc-zero e
    go false e = refl

-- P
pub describe-refused : (p : PrivateLine) (w r : ℕ) → refuse_describe p.descriptor ≡ suc r → own_describe p w ≡ unchanged (refuses (suc r)) p
unfolding refuse_describe own_describe
describe-refused p w r = go (leb word_limit (length p.descriptor))
  where
    go : (t : Bool)
        → cond t descriptor_full accepted ≡ suc r
        → cond t (unchanged (refuses descriptor_full) p)
        (record { answer = says (length (p.descriptor ++ (w ∷ []))); line = with_own_descriptor (p.descriptor ++ (w ∷ [])) p })
        ≡ unchanged (refuses (suc r)) p
    go true e = ap (λ (a : ℕ). unchanged (refuses a) p) e
    go false e = zero-suc e

pub describe-accepted : (p : PrivateLine) (w : ℕ) → refuse_describe p.descriptor ≡ 0
    → own_describe p w ≡ record { answer = says (length (p.descriptor ++ (w ∷ []))); line = with_own_descriptor (p.descriptor ++ (w ∷ [])) p }
unfolding refuse_describe own_describe
describe-accepted p w = go (leb word_limit (length p.descriptor))
  where
    done : Served
    done = record { answer = says (length (p.descriptor ++ (w ∷ []))); line = with_own_descriptor (p.descriptor ++ (w ∷ [])) p }

    go : (t : Bool) → cond t descriptor_full accepted ≡ 0 → cond t (unchanged (refuses descriptor_full) p) done ≡ done
    go true e = suc-zero e
    go false e = refl

-- L
pub launch-refused : (g : ℕ) (d : List ℕ) (p : PrivateLine) (k r : ℕ) → refuse_launch d k ≡ suc r → own_launch g d p k ≡ unchanged (refuses (suc r)) p
unfolding refuse_launch own_launch
launch-refused g [] p k r e = ap (λ (a : ℕ). unchanged (refuses a) p) e
launch-refused g (w ∷ d) p k r h = go (ltb last_node k) h
  where
    done : Served
    done = record { answer = record { number = accepted; value = length (w ∷ d); sent = k ∷ g ∷ w ∷ d }; line = with_own_descriptor [] p }

    go : (t : Bool) → cond t bad_node accepted ≡ suc r → cond t (unchanged (refuses bad_node) p) done ≡ unchanged (refuses (suc r)) p
    go true e = ap (λ (a : ℕ). unchanged (refuses a) p) e
    go false e = zero-suc e

pub launch-accepted : (g : ℕ) (d : List ℕ) (p : PrivateLine) (k : ℕ) → refuse_launch d k ≡ 0
    → own_launch g d p k ≡ record { answer = record { number = accepted; value = length d; sent = k ∷ g ∷ d }; line = with_own_descriptor [] p }
unfolding refuse_launch own_launch
launch-accepted g [] p k e = suc-zero e
launch-accepted g (w ∷ d) p k h = go (ltb last_node k) h
  where
    done : Served
    done = record { answer = record { number = accepted; value = length (w ∷ d); sent = k ∷ g ∷ w ∷ d }; line = with_own_descriptor [] p }

    go : (t : Bool) → cond t bad_node accepted ≡ 0 → cond t (unchanged (refuses bad_node) p) done ≡ done
    go true e = suc-zero e
    go false e = refl
