-- The laws of a line that is listed.
pub mod AppendedLaws
pub mod DecimalLaws
pub mod CounterLaws
pub mod CarryLaws
pub mod ListingLaws
