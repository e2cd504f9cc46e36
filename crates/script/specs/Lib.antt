pub mod Read
pub mod Written
pub mod Feeding
pub mod Play
pub mod Feed
pub mod Portions
pub mod Calls
