-- `script::play::play_text` meets its contract: with its newline the line is a text of one line. Assumes nothing.
use Prim.Native.Nat.{◌+◌, ◌-◌}
use native.Mathlib.Omega.{arith}
use mathlib.Core.List.{[], ◌∷◌, ◌++◌}
use mathlib.Core.Path.{◌≡◌}
use lib.ListN.{length-set, set, take}
use Rattle.rules.specs.Script.{newline}
use Rattle.script.proofs.play.PlayLaws.{text-line, text-playable, text-played}
use Rattle.script.proofs.play.play_text.Goals as goal

pub slice_bounds-play-end : goal.slice_bounds-play-end
slice_bounds-play-end c = let i = c.requires.inside in let l = length-set c.args.text.now c.args.count newline in omega arith

pub play-requires : goal.play-requires
play-requires c =
    let z : c.args.count + 1 - 0 ≡ c.args.count + 1 = omega arith in
    rw z (text-playable c.requires)

pub returns : goal.returns
returns c =
    let z : c.args.count + 1 - 0 ≡ c.args.count + 1 = omega arith in
    let l : take (c.args.count + 1 - 0) (set c.args.text.now c.args.count newline) ≡ take c.args.count c.args.text.now ++ (newline ∷ []) =
    rw z (text-line c.args.text.now c.args.count c.requires.inside) in
    text-played c.requires.one c.requires.room c.requires.counting (rw l at c.play.ensures)
