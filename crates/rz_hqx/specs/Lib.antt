pub mod Runs
pub mod Letters
pub mod Text
pub mod Held
pub mod BinHex
