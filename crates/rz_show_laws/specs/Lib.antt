pub mod Short
pub mod Statement
pub mod Showable
pub use Rattle.rz_show_lines.specs.Good
pub use Rattle.rz_show_lines.specs.Page
