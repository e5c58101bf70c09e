pub mod Shown
pub mod Chosen
pub mod Text
pub mod Held
pub mod Put
