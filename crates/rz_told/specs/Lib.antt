pub mod Left
pub mod BreaksText
pub mod Date
pub mod Text
pub mod Parts
pub mod Puts
pub mod Held
