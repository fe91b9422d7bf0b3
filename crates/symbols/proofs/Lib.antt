pub mod Eleven
pub mod Symbols
