pub mod Fault
pub mod Late
pub mod Laid
pub mod Places
pub mod Seen
pub mod Sound
pub mod Text
pub mod Compiled
