-- First in, first out: how a list goes from one moment to a later one, with a joined to its end and d taken from its front. Assumes nothing.
use Prim.Native.Nat.{ℕ, ◌+◌, ◌≤◌}
use native.Mathlib.Omega.{arith}
use mathlib.Core.Path.{◌≡◌, sym, ap, ◌∙◌}
use mathlib.Core.List.{List, [], ◌++◌, append-nil, append_assoc}
use lib.ListN.{length, drop, length-append, length-drop}
use lib.Seq.{drop-append-le, drop-drop}

pub record Flow {A : Type 0} (before after a : List A) (d : ℕ) : Type 0 where
  pub same : after ≡ drop d (before ++ a)
  pub enough : d ≤ length (before ++ a)

module _ {A : Type 0} where
  -- nothing joined, nothing taken
  pub flow-kept : {before after : List A} → after ≡ before → Flow before after [] 0
  flow-kept {before = before} e = record { same = e ∙ sym (append-nil before); enough = omega arith }

  -- more taken from the front afterwards
  pub flow-drop : {before after a : List A} {d : ℕ} (e : ℕ) → Flow before after a d → e ≤ length after → Flow before (drop e after) a (d + e)
  flow-drop {before} {after} {a} {d} e f h =
      let len : length after ≡ length (drop d (before ++ a)) = ap length f.same in
      record {
        same = ap (drop e) f.same ∙ drop-drop e d (before ++ a);
        enough = omega (arith, length-drop d (before ++ a), len, f.enough, h);
      }

  -- one after the other, where the second is known as a list
  pub flow-join : {before after a : List A} {d : ℕ} (e : ℕ) (rest : List A) → Flow before after a d
      → drop e (after ++ rest) ≡ drop (d + e) (before ++ (a ++ rest))
  flow-join {before} {after} {a} {d} e rest f =
      ap (λ (l : List A). drop e (l ++ rest)) f.same
      ∙ ap (drop e) (sym (drop-append-le d (before ++ a) rest f.enough))
      ∙ drop-drop e d ((before ++ a) ++ rest)
      ∙ ap (drop (d + e)) (append_assoc before a rest)

  -- one after the other, where nothing joins
  pub flow-then : {before between after : List A} {d e : ℕ} → Flow before between [] d → Flow between after [] e → Flow before after [] (d + e)
  flow-then {before} {between} {after} {d} {e} f g =
      let len : length between ≡ length (drop d (before ++ [])) = ap length f.same in
      record {
        same = g.same ∙ flow-join e [] f;
        enough = omega (arith, length-drop d (before ++ []), length-append between [], len, f.enough, g.enough);
      }

  -- what is there at the end: what was, and what joined, less what was taken
  pub flow-length : {before after a : List A} {d : ℕ} → Flow before after a d → d + length after ≡ length before + length a
  flow-length {before} {after} {a} {d} f =
      let len : length after ≡ length (drop d (before ++ a)) = ap length f.same in
      omega (arith, length-drop d (before ++ a), length-append before a, len, f.enough)
