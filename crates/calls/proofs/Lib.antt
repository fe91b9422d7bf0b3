pub mod Grid
pub mod Totals
pub mod Declines
pub mod Keeping
pub mod Outcomes
pub mod Histories
