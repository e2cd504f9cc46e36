-- The laws of A.
pub mod PledgeLaws
pub mod PledgeReads
pub mod ArriveLaws
