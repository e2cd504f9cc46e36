-- Order 1's swap space shows in no report but by "Answer 6", which "now read[s] 96 for 32": a build reports by how many pages it has in all, and not
-- by how many of them are frames, so nobody is told where a page is. Assumes nothing.
use Rattle.std.specs.Prelude.{◌≡◌, List}
use Rattle.rules.specs.Build.{Build, Sensible, page_count}
use Rattle.rules.specs.Run.{Input, run}

-- two builds with as many pages in all, alike in all else but how many of the pages are frames
pub record SameButFrames (b c : Build) : Type 0 where
  pub pages : page_count b ≡ page_count c
  pub per_frame : b.per_frame ≡ c.per_frame
  pub places : b.places ≡ c.places
  pub timeout : b.timeout ≡ c.timeout

-- every run has the same reports on both, in a build without swap pages too, in which no page ever goes out
pub record PagingUnseen : Type 0 where
  pub reports : (b c : Build) → Sensible b → Sensible c → SameButFrames b c → (is : List Input) → (run b is).events ≡ (run c is).events
