pub mod Stores
pub mod Soundness
