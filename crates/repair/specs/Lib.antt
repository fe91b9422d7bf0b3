pub mod TwoClass
pub mod Promise
pub mod Lawful
