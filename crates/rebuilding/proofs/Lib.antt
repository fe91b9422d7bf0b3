pub mod Writing
pub mod Regaining
