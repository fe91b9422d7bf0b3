pub mod Cuts
pub mod Laws
pub mod Spelling
