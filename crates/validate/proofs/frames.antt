-- The laws of the clauses on frames and on what is in them.
pub mod ListedLaws
pub mod OnceLaws
pub mod WalkLaws
pub mod SwapLaws
pub mod MaskLaws
pub mod PlaceLaws
pub mod WipedLaws
