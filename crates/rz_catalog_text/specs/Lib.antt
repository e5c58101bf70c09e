pub mod InOrder
pub mod Entries
pub mod Read
pub mod Stored
pub mod Source
pub mod Text
pub mod Back
