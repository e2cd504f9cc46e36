pub mod Writes
pub mod Lines
pub mod Holds
pub mod Paging
pub mod Answers
pub mod Descriptors
