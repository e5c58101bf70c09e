pub mod Files
pub mod Declaring
pub mod Limits
pub mod Begins
pub mod Bridging
pub mod Breaking
pub mod Telling
pub mod SampleRows
