-- The memory map and the memory test.
pub mod TestLaws
pub mod MapWords
pub mod MapParts
pub mod PageLaws
pub mod MapFrames
pub mod MapPaging
pub mod MapTest
pub mod MapRead
pub mod MapLaws
pub mod MapClean
pub mod ShownLaws
pub mod MapHead
pub mod RunMemory
