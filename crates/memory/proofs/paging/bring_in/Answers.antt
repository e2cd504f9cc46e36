-- `memory::paging::bring_in` meets its contract: whether a frame is free is read. Assumes nothing.
use native.Mathlib.Omega.{arith}
use Rattle.rules.specs.Memory.{word}
use Rattle.memory.proofs.PieceLaws.{holds-pieces}
use Rattle.memory.proofs.paging.PrepareLaws.{none_free, some-free}
use Rattle.memory.proofs.paging.bring_in.Goals as goal

pub bounds-m-3 : goal.bounds-m-3
bounds-m-3 c = omega (arith, (holds-pieces c.requires.holds).long)

pub fetch-requires : goal.fetch-requires
unfolding word
fetch-requires c =
    let p = c.requires in
    record { node = p.node; rest = p.rest; holds = p.holds; fact = record { away = p.fact; some = some-free p.holds c.if-m-gt0.true } }

pub returns-then-m-gt0 : goal.returns-then-m-gt0
unfolding word
returns-then-m-gt0 c n r h away =
    c.fetch.ensures n r h (record { away = away; some = some-free h c.if-m-gt0.true })

pub exchange-requires : goal.exchange-requires
unfolding word
exchange-requires c =
    let p = c.requires in
    record { node = p.node; rest = p.rest; holds = p.holds; fact = record { away = p.fact; full = none_free p.holds (omega (arith, c.if-m-gt0.false)) } }

pub returns-else-m-gt0 : goal.returns-else-m-gt0
unfolding word
returns-else-m-gt0 c n r h away =
    c.exchange.ensures n r h (record { away = away; full = none_free h (omega (arith, c.if-m-gt0.false)) })
