-- What a public call promises: its report and the words at exit are those that the rules give. Assumes nothing.
use Rattle.std.specs.Prelude.{ℕ, ◌≡◌, List}
use Rattle.rules.specs.MemoryTest.{MemoryStep}
use Rattle.rules.specs.Types.{report_of}
use Rattle.rules.specs.declared.Report.{Report as Report·rt}

-- the memory at exit and the report are those of a step on memory
pub record Answers (exit : List ℕ) (report : Report·rt) (step : MemoryStep) : Type 0 where
  pub reported : report ≡ report_of step.report
  pub left : exit ≡ step.memory
