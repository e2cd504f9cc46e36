pub mod Run
pub mod Leads
