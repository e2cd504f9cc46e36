pub mod OneLineLaws
pub mod PortionLaws
pub mod PortionsLaws
pub mod CallsLaws
