-- The tables of cases.
pub mod Case
pub mod PaperCases
pub mod AnswerCases
pub mod ScriptCases
pub mod BufferCases
pub mod StepCases
pub mod SwitchCases
pub mod TurnCases
pub mod ForceCases
pub mod MemoryCases
pub mod PagingCases
pub mod WipedCases
pub mod TypeCases
pub mod RunCases
pub mod BeforeCases
