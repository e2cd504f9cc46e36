pub mod Clauses
pub mod Known
