pub mod Turned
pub mod Shorter
pub mod Hashes
pub mod EverySource
pub mod Pieces
