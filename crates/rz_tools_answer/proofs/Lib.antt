pub mod Said
pub mod Warnings
pub mod Beside
pub mod Carried
pub mod Complete
pub mod Planning
