pub mod Cases
pub mod Steps
pub mod Private
pub mod Runs
pub mod Map
pub mod Demands
pub mod Touches
