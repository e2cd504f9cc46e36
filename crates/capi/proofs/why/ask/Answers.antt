-- `capi::why::ask` meets its contract: a slice has fewer than 2⁶³ bytes, so that there are line numbers enough for any script. Assumes nothing.
use native.Mathlib.Omega.{arith}
use Rattle.capi.proofs.WhyLaws.{asked-played, asked-refused}
use Rattle.capi.proofs.why.ask.Goals as goal

pub returns-then-started-ne0 : goal.returns-then-started-ne0
returns-then-started-ne0 c =
    asked-refused c.args.memory.now c.args.script.now c.args.line c.power_on-started.ensures c.if-started-ne0.true c.from.ensures

pub returns : goal.returns
returns c =
    let begun = c in
    let start = begun in
    let n = c.new.ensures in
    asked-played start.args.memory.now start.args.script.now start.args.line (omega (arith, start.well_formed.1.0))
    begun.power_on-started.ensures c.if-started-ne0.false
    (record { none = n.0; empty = n.1.0; wanted = n.1.1.0; nothing = n.1.1.1 })
    c.follow-played.ensures
    c.finish.ensures
