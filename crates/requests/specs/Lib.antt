pub mod Letters
pub mod Meaning
pub mod Phrases
pub mod Reading
