-- `validate::frames::frames_good` meets its contract: the pages are known where what is in them is looked at. Assumes nothing.
use mathlib.Core.Path.{◌≡◌}
use mathlib.Core.Bool.{true}
use lib.ListN.{length}
use Rattle.std.proofs.Common.{arith}
use Rattle.std.proofs.lemmas.Grind.{common_steps}
use Rattle.rules.specs.Valid.{frame_numbers}
use Rattle.rules.specs.Memory.{node_at}
use Rattle.validate.specs.Clauses.{pages_once}
use Rattle.validate.proofs.FactLaws.{paged, framed}
use Rattle.validate.proofs.frames.frames_good.Goals as goal

pub idle_wiped-requires : goal.idle_wiped-requires
idle_wiped-requires c =
    let m = c.args.m.now in
    let whole : length (frame_numbers (node_at m)) ≡ 96 = grind (arith, common_steps) in
    let once : pages_once m ≡ true = grind (arith, common_steps) in
    paged m c.requires.counted whole once

pub all_places_good-requires : goal.all_places_good-requires
all_places_good-requires c =
    let m = c.args.m.now in
    let whole : length (frame_numbers (node_at m)) ≡ 96 = grind (arith, common_steps) in
    let once : pages_once m ≡ true = grind (arith, common_steps) in
    framed m c.requires.counted c.requires.m_value whole once
