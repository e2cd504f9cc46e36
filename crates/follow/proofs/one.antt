-- The laws of one message followed.
pub mod PlaceLaws
pub mod FollowLaws
