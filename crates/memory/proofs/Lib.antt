pub mod WriteLaws
pub mod PieceLaws
pub mod PieceWrites
pub mod LinePieces
pub mod CountLaws
pub mod PowerOnLaws
