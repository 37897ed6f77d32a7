mod Resets
mod Checking
mod Reporting
