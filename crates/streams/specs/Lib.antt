pub mod Moved
pub mod Turns
