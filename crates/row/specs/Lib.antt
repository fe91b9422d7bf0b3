pub mod Polynomial
pub mod Interpolation
pub mod Numbered
pub mod RowRule
pub mod Weights
pub mod Answers
