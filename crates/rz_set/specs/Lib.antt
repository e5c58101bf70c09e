pub mod ResSet
pub mod Choice
pub mod After
pub mod Change
pub mod Wanted
pub mod Fates
