-- The laws of the clauses on numbers that stand where they are read.
pub mod PartLaws
