pub mod Keyword
pub mod Attribute
pub mod Words
