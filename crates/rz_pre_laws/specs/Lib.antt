pub mod Definitions
pub mod Groups
pub mod Tools
pub mod Unfolding
