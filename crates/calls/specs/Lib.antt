pub mod Numbers
pub mod Faults
pub mod Reading
pub mod Calls
pub mod History
pub mod Theorem
