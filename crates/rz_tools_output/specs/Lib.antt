pub mod Templates
pub mod Base
pub mod Output
pub mod Halted
pub mod Bridge
pub mod Det
pub mod List
pub mod SampleSource
