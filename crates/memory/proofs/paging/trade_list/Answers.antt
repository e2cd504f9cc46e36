-- `memory::paging::trade_list` meets its contract. The invariant: the numbers passed are traded, and the others as they were. Assumes nothing.
use Prim.Native.Nat.{◌+◌, ◌-◌}
use native.Mathlib.Omega.{arith}
use mathlib.Core.Path.{◌≡◌}
use Rattle.rules.specs.Memory.{word, words_at, list_at, group_address, held_offset, list_offset}
use Rattle.memory.proofs.WriteLaws.{wrote_none}
use Rattle.memory.proofs.paging.TradeLaws.{list-next}
use Rattle.memory.proofs.paging.trade_list.Goals as goal

pub loop-i-init : goal.loop-i-init
unfolding words_at
loop-i-init c =
    let at = c.group_at-at.result + list_offset in
    let none : at - at ≡ 0 = omega arith in
    rw none (wrote_none _ _)

pub loop-i-preserved : goal.loop-i-preserved
unfolding word group_address
loop-i-preserved c =
    let at = c.group_at-at.result + list_offset in
    let i = c.loop-i.i in
    let next : i + 1 - at ≡ i - at + 1 = omega arith in
    let here : at + (i - at) ≡ i = omega arith in
    let more = list-next c.args.p c.args.q at (i - at) c.traded.result (omega arith) c.loop-i.invariant in
    rw next ((rw here at more) c.traded.ensures)

pub returns : goal.returns
unfolding list_at
returns c =
    let s = c.args in
    let at = group_address s.g + list_offset in
    let all : c.loop-i.i - at ≡ word s.m.now (group_address s.g + held_offset) = omega (arith, c.group_at-at.ensures, c.group_word-k.ensures) in
    rw (c.group_at-at.ensures, all) at c.loop-i.invariant
