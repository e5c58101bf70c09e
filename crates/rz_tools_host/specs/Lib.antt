pub mod Clock
pub mod Epoch
pub mod Hindrance
pub mod Process
pub mod MemHost
pub mod Given
