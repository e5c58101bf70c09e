pub mod Format
pub mod Filling
