-- The laws of the hardware queue.
pub mod QueueLaws
