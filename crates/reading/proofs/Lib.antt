pub mod Checking
pub mod Gathering
