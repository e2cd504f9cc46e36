-- The laws of a line of numbers, and of a number's place in it.
pub mod LineLaws
pub mod IndexLaws
