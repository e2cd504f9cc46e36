pub mod AskedLaws
pub mod ReachLaws
pub mod TextLaws
pub mod RunLaws
pub mod AllLaws
pub mod ProgramLaws
