pub mod Fetch
pub mod Put
pub mod Theorems
