-- The laws of the clauses on lines.
pub mod CountLaws
pub mod LineLaws
