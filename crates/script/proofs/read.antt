-- The laws of a line that is read.
pub mod LineEndLaws
pub mod NumberLaws
pub mod SplitLaws
pub mod FieldLaws
pub mod LetterLaws
pub mod NewlineLaws
pub mod ReadLaws
