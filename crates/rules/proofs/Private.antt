-- A step is to a group what its private line makes of it; and what becomes of its flags.
pub mod ViewLaws
pub mod RequestLaws
pub mod ServeLaws
pub mod EventLaws
pub mod HeardLaws
pub mod FlagLaws
