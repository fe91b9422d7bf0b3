pub mod Declining
pub mod Painting
pub mod Changing
pub mod Exits
