pub mod PortionsLaws
pub mod EveryPortionsLaws
