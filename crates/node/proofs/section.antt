-- The laws of B, N and D.
pub mod SectionLaws
