pub mod RangeLaws
pub mod AllLaws
pub mod TestLaws
pub mod FactLaws
pub mod NodeLaws
