pub mod RunnerLaws
pub mod StepMap
pub mod ServedLaws
pub mod OperationLaws
pub mod TestedLaws
pub mod CallsLaws
