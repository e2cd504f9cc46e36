-- The laws of settling, the drain and the upcall.
pub mod MoveLaws
pub mod PassLaws
pub mod StayLaws
pub mod TimerLaws
pub mod CallLaws
pub mod FinishLaws
