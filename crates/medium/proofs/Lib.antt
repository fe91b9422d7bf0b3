pub mod Found
pub mod Calls
