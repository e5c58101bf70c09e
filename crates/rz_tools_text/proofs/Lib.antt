pub mod Choice
pub mod Rows
pub mod Lists
pub mod Showings
pub mod OneText
pub mod EveryText
