-- The laws of a buffer: one place of a frame, a message put, a frame taken, both, the first place wiped, and a message removed.
pub mod PlaceLaws
pub mod PutLaws
pub mod TakeLaws
pub mod AppendLaws
pub mod WipeLaws
pub mod FreeLaws
