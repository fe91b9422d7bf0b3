pub mod Cells
pub mod Banks
pub mod Soundness
