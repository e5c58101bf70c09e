pub mod Fits
pub mod Pieces
pub mod Points
pub mod Cursor
pub mod Came
pub mod Few
pub mod Rows
pub mod Reading
