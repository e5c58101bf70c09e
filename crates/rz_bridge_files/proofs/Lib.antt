pub mod Found
pub mod DataFile
pub mod EveryPath
pub mod Naming
pub mod Once
pub mod EveryFile
pub mod Raw
