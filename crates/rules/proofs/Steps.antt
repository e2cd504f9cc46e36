-- A node stays a node: lists, then buffers and frames, settling, lines, ticks, each operation, a step, steps after which nothing is due, and C.
pub mod EveryLaws
pub mod ListLaws
pub mod SoundLaws
pub mod NodeLaws
pub mod FrameLaws
pub mod RoomLaws
pub mod PagingLaws
pub mod StoreLaws
pub mod SettlingLaws
pub mod LineLaws
pub mod TickLaws
pub mod ActLaws
pub mod StepLaws
pub mod QuietLaws
pub mod SwitchLaws
pub mod TurnLaws
