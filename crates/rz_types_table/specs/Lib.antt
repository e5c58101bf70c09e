pub mod Table
pub mod Listed
pub mod Positions
pub mod TypeTable
pub mod Scopes
