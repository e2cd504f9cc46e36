-- The laws of every message followed.
pub mod EveryLaws
pub mod EndLaws
