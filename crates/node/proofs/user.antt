-- The laws of M, E, P and L.
pub mod PeekLaws
pub mod SendLaws
