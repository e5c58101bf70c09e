pub mod Check
pub mod Places
pub mod Faults
pub mod Ranges
pub mod MacBinary
pub mod Apple
