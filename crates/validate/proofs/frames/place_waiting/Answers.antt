-- `validate::frames::place_waiting` meets its contract: a length of 1 to 8, and the words past it. Assumes nothing.
use native.Mathlib.Omega.{arith}
use lib.ListN.{get_or}
use borrow.Author.Tests.{lt-leb, eq-eqb}
use Rattle.rules.specs.Memory.{word}
use Rattle.validate.proofs.frames.PlaceLaws.{place_none, place-over, place-within}
use Rattle.validate.proofs.frames.place_waiting.Goals as goal
use Rattle.validate.proofs.frames.place_waiting.Goals.{then-len-ne0, else-len-ne0}

pub returns-then-len-le-WORDS : goal.returns-then-len-le-WORDS
unfolding word
returns-then-len-le-WORDS c =
    let s = c.args in
    place-within s.m.now s.a _ c.if-len-le-WORDS.true.0 c.if-len-le-WORDS.true.1 c.past_zero.ensures

pub returns-else-len-le-WORDS : goal.returns-else-len-le-WORDS
unfolding word
returns-else-len-le-WORDS c =
    let s = c.args in
    elim c.if-len-ne0.branch [
      | then-len-ne0 w ↦
          let long = lt-leb (get_or s.m.now s.a 0) 8 (omega arith) in
          let fails = place-over s.m.now s.a w.if-len-ne0.true (omega arith) in
          cc
      | else-len-ne0 w ↦
          let none = eq-eqb (get_or s.m.now s.a 0) 0 w.if-len-ne0.false in
          let fails = place_none s.m.now s.a w.if-len-ne0.false in
          cc
    ]
