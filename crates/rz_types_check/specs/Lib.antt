pub mod Walked
pub mod Keys
pub mod Firsts
