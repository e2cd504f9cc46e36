-- The tables of cases, each computed from the definitions.
pub mod Computes
pub mod PaperCasesLaws
pub mod TypeCasesLaws
pub mod AnswerCasesLaws
pub mod ScriptCasesLaws
pub mod BufferCasesLaws
pub mod StepCasesLaws
pub mod SwitchCasesLaws
pub mod TurnCasesLaws
pub mod ForceCasesLaws
pub mod MemoryParts
pub mod TestComputes
pub mod MemoryCasesLaws
pub mod PagingCasesLaws
pub mod WipedCasesLaws
pub mod RunCasesLaws
pub mod BeforeCasesLaws
