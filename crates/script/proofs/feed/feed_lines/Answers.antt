-- `script::feed::feed_lines` meets its contract: the portion is cut behind its last newline, and what stands behind the cut is kept. Assumes
-- nothing.
use Prim.Native.Nat.{◌-◌}
use native.Mathlib.Omega.{arith}
use mathlib.Core.Path.{◌≡◌, ◌∙◌, ap}
use lib.ListN.{take}
use borrow.Author.Rules.{rules}
use Rattle.script.specs.Feed.{kept_room}
use Rattle.script.proofs.feed.FeedLaws.{cut-playable, drop_all, lines-stopped, lines-used}
use Rattle.script.proofs.feed.feed_lines.Goals as goal

pub play-p-requires : goal.play-p-requires
play-p-requires c =
    let z : c.behind_last-last.result - 0 ≡ c.behind_last-last.result = omega arith in
    rw z (cut-playable c.requires c.behind_last-last.ensures)

pub returns-then-ne : goal.returns-then-ne
returns-then-ne c =
    let z : c.behind_last-last.result - 0 ≡ c.behind_last-last.result = omega arith in
    lines-stopped c.requires c.behind_last-last.ensures (rw z at c.play-p.ensures) (search rules) _

pub returns : goal.returns
returns c =
    let z : c.behind_last-last.result - 0 ≡ c.behind_last-last.result = omega arith in
    lines-used c.requires c.behind_last-last.ensures (rw z at c.play-p.ensures)
    (search rules) (c.keep-count.ensures.0 ∙ ap (take kept_room) (drop_all c.args.input.now c.behind_last-last.result))
