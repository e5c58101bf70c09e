pub mod Says
pub mod Reading
