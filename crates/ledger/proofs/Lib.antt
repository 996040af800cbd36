pub mod Drawing
pub mod Padding
pub mod Limits
pub mod Runs
pub mod Moves
