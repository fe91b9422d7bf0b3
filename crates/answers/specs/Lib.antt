pub mod Declines
pub mod Lines
