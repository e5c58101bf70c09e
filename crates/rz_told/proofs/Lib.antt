pub mod Onward
pub mod Table
pub mod Putting
pub mod Sizes
pub mod Parted
pub mod Dates
