-- What each operation may touch: rows compared, the pieces of a step, each operation's row, and the statement.
pub mod PartLaws
pub mod TouchLaws
pub mod SectionRows
pub mod QueueRows
pub mod SwitchRows
pub mod DisposeRow
pub mod TouchesLaws
