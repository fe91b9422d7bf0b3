pub mod Input
pub mod Faults
