pub mod Asking
pub mod Behind
pub mod Calls
pub mod ChosenOne
pub mod Fileless
pub mod Split
pub mod TextsRead
pub mod Turns
