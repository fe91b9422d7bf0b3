pub mod Allowing
pub mod Patching
