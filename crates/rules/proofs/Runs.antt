-- A run: what a group sees of it, its line, the hardware queue, the timer, how long a message waits.
pub mod RunLaws
pub mod BeforeLaws
pub mod FlowLaws
pub mod RunLine
pub mod RunQueue
pub mod RunTimer
pub mod RunWaits
pub mod AlikeLaws
pub mod UnseenLaws
