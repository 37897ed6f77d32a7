mod Scans
pub mod Words
