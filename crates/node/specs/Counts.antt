-- The counts of pages as the count call reports them. Assumes nothing.
use Rattle.rules.specs.MemoryTest.{PageCounts}
use Rattle.node.specs.declared.PageCounts.{PageCounts as PageCounts·rt}

-- pages sent out, and pages brought in
abbrev pub counts_of : PageCounts → PageCounts·rt
counts_of c = record { out = c.out; brought = c.brought }
