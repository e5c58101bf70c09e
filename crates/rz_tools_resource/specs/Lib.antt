pub mod Items
pub mod Named
pub mod Raw
pub mod Resource
pub mod Asked
