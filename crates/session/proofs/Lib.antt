pub mod Feeds
pub mod Pieces
pub mod Runs
pub mod Streams
pub mod Whole
