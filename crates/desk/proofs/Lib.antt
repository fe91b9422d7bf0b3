pub mod Continuing
