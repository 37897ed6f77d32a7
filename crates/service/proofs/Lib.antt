mod Small
mod Others
mod Naming
mod Checking
mod Writing
mod Stepping
