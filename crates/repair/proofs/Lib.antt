pub mod Planning
pub mod Served
pub mod Makings
