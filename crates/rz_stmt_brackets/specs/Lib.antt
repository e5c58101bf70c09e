pub mod Statements
pub mod Cutting
pub mod Limit
pub mod Pieces
pub mod Bracket
pub mod Held
pub mod Kind
