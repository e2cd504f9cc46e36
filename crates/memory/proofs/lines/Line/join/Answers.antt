-- `memory::lines::Line::join` meets its contract. Assumes nothing.
use Prim.Native.Nat.{◌+◌}
use native.Mathlib.Omega.{arith}
use lib.ListN.{set, length-set}
use Rattle.rules.specs.Memory.{word}
use Rattle.memory.proofs.WriteLaws.{wrote-set}
use Rattle.memory.proofs.lines.Line.join.Goals as goal

pub returns : goal.returns
unfolding word
returns c =
    let m = c.args.m.now in
    let count = c.args.self.count in
    let at = c.args.self.first + word m count in
    let x = c.args.x in
    let pre = c.requires in
    record {
      between = set m at x;
      written = wrote-set m at x (omega arith);
      counted = wrote-set (set m at x) count (word m count + 1) (simp length-set (omega arith));
    }
