pub mod Controls
pub mod Codes
pub mod Layouts
pub mod Shapes
pub mod Writes
pub mod Commands
pub mod Timings
