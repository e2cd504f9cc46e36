-- The laws of a group's record.
pub mod GroupLaws
