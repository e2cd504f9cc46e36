-- The laws of the first message.
pub mod HeadLaws
