pub mod Checks
pub mod Layout
pub mod Symbols
pub mod Each
pub mod Sheet
pub mod Recovered
pub mod Theorems
