-- The laws of a portion's lines.
pub mod NextLaws
pub mod PassedLaws
