pub mod Told
pub mod Why
pub mod Carried
pub mod Calls
pub mod Feed
pub mod FeedPortions
pub mod Tell
pub mod TellPortions
