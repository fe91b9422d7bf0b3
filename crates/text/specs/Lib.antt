pub mod Lines
pub mod Numbers
pub mod Parts
pub mod Walk
pub mod Words
pub mod Cutting
