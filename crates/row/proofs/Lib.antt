pub mod Algebra
pub mod Gap
pub mod Lagrange
pub mod Polynomial
pub mod Numbers
pub mod Rules
pub mod Listings
