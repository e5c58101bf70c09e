pub mod Counts
pub mod Undone
pub mod Marking
pub mod Lateness
pub mod Claims
pub mod Labels
pub mod OpenTexts
pub mod PieceSteps
