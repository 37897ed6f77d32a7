pub mod Joining
pub mod Bounds
