pub mod Kept
pub mod Flat
pub mod RefusedAt
pub mod RefusedNumber
pub mod Inverse
pub mod Placed
pub mod Shown
pub mod Apart
