pub mod Horner
