-- A line is a step of a run, so what holds of any calls that step a node holds of `node::step` and `line` in any order. Assumes nothing.
use mathlib.Core.List.{map}
use Rattle.rules.specs.Run.{asked}
use Rattle.node.proofs.CallsLaws.{calls-demanded}
use Rattle.script.specs.Calls.{LinesDemanded, call_of}

pub lines-demanded : LinesDemanded
unfolding asked call_of
lines-demanded =
    record {
      step-promised = λ m m' words op rep kept. kept;
      line-promised = λ m m' text rep kept. kept;
      any-call = λ m c m' kept. calls-demanded.any-call m (call_of c) m' kept;
      any-calls = λ m m₀ m' rep cs long on calls. calls-demanded.any-calls m m₀ m' rep (map call_of cs) long on calls;
    }
