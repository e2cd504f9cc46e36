-- The laws of the clauses on words alone.
pub mod WordLaws
