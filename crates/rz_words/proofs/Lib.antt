pub mod Spelled
pub mod ByLength
pub mod Bits
