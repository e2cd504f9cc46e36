-- The laws of a portion that is fed.
pub mod FeedLaws
pub mod BegunLaws
pub mod FedLaws
