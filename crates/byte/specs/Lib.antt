pub mod Polynomial
pub mod Bytes
pub mod Laws
pub mod Remainder
pub mod Times
pub mod Exponents
pub mod Products
