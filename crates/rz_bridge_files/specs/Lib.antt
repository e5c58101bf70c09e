pub mod Forms
pub mod DataFile
pub mod Faults
pub mod Contents
pub mod Written
pub mod Names
