pub mod Replies
pub mod Engines
pub mod Machines
pub mod Makings
pub mod Sessions
