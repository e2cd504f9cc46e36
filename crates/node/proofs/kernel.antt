-- The laws of O, I, S and T.
pub mod KernelLaws
