-- `capi::carried::put_kept` meets its contract: a text written over as many bytes. Assumes nothing.
use Prim.Native.Nat.{ℕ}
use mathlib.Core.List.{List, ◌++◌}
use mathlib.Core.Path.{◌≡◌, ◌∙◌, ap}
use lib.ListN.{drop, length}
use lib.Seq.{length-take-le}
use borrow.Author.Rules.{rules}
use Rattle.capi.specs.Carried.{line_room}
use Rattle.capi.proofs.carried.put_kept.Goals as goal

pub copy_all-requires : goal.copy_all-requires
copy_all-requires c =
    let all : line_room ≡ length c.args.kept = search rules in
    length-take-le line_room c.args.bytes.now c.requires ∙ all

pub returns : goal.returns
returns c =
    (ap (λ (t : List ℕ). t ++ drop line_room c.args.bytes.now) c.copy_all.ensures.after, search rules)
