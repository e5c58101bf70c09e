pub mod Bits
pub mod BitBuf
pub mod Held
pub mod View
pub mod Patch
