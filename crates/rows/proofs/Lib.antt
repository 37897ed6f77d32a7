mod Laid
mod Ascending
mod Fitting
pub mod Slices
pub mod Meaning
pub mod Sheets
