pub mod Source
pub mod Directive
pub mod Piece
pub mod Store
pub mod Reader
