mod Scans
pub mod Passing
pub mod Lowest
mod Examples
