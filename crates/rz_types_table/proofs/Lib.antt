pub mod Found
pub mod Groups
pub mod Placed
pub mod Places
