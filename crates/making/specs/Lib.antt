pub mod Scans
pub mod Table
pub mod Met
pub mod Rules
pub mod Making
pub mod Passed
pub mod Lowest
