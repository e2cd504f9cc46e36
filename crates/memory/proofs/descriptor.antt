-- The laws of the descriptor.
pub mod DescriptorLaws
