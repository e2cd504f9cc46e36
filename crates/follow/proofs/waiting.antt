-- The laws of the lines whose messages wait.
pub mod ShiftLaws
pub mod TellLaws
