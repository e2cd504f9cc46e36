-- The laws of what is seen of a line.
pub mod ReadLaws
pub mod ReasonLaws
pub mod SeenLaws
pub mod QuietLaws
