pub mod Numbers
pub mod Bytes
pub mod Held
pub mod Windows
pub mod Patched
pub mod Any
pub mod Many
