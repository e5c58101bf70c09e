pub mod Named
pub mod Firsts
pub mod Broken
pub mod Differing
pub mod Keeping
pub mod Unknown
pub mod Noted
pub mod NearLabels
pub mod OneKind
pub mod LeastWidths
mod Examples
pub mod Apart
pub mod Cased
pub mod Texts
pub mod OwnNames
