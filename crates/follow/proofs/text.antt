-- The laws of the answer as text.
pub mod WhyLaws
