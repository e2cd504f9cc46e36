-- The laws of lines played one after the other.
pub mod CutLaws
pub mod PlayLaws
pub mod StopLaws
