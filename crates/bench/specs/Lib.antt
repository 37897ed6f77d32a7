pub mod Lines
pub mod Exchanges
