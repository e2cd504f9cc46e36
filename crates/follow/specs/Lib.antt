pub mod Seen
pub mod Portion
pub mod One
pub mod Portions
pub mod Text
pub mod Waiting
pub mod Every
pub mod EveryPortions
