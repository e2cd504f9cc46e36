-- The laws of words that are 0, and of words copied and exchanged.
pub mod ZeroLaws
pub mod SwapLaws
