pub mod Runs
pub mod Feeding
pub mod Stages
pub mod Streaming
