pub mod Steps
pub mod Parts
pub mod Counts
pub mod Sending
pub mod Calls
