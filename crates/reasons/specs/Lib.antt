pub mod Moments
pub mod Why
pub mod ByPlace
pub mod Follow
pub mod Told
pub mod WhyCases
pub mod Numbers
