pub mod Asking
pub mod Fileless
pub mod OneResource
pub mod Reading
