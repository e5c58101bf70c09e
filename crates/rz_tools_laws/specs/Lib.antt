pub mod Behind
pub mod Bridge
pub mod Templates
pub mod Texts
pub mod Listed
pub mod Fields
pub mod Sampled
