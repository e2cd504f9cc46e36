-- `capi::carried::put_waiting` meets its contract: numbers copied into a part of the words. Assumes nothing.
use Prim.Native.Nat.{ℕ}
use mathlib.Core.List.{List, ◌++◌}
use mathlib.Core.Path.{◌∙◌, ap}
use lib.ListN.{drop, take}
use lib.Seq.{drop-drop}
use Rattle.capi.specs.Carried.{waiting_at}
use borrow.Author.Rules.{rules}
use Rattle.capi.proofs.carried.put_waiting.Goals as goal

pub returns : goal.returns
returns c =
    let w = c.args.words.now in (
      ap (λ (x : List ℕ). take waiting_at w ++ (x ++ drop 16 (drop waiting_at w))) c.copy_all.ensures.after
          ∙ ap (λ (x : List ℕ). take waiting_at w ++ (c.args.waiting ++ x)) (drop-drop 16 waiting_at w),
      search rules,
    )
