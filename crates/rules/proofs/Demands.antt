-- The table of refusals, the demands, what a dump tells, what E reads, what C names, and what the statements ask for.
pub mod ConditionsLaws
pub mod DemandOneLaws
pub mod DemandThreeLaws
pub mod DumpsLaws
pub mod ReadingLaws
pub mod TurnsLaws
pub mod HypothesesLaws
