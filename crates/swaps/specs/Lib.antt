pub mod States
pub mod Swaps
pub mod Limits
pub mod Ends
pub mod Sooner
pub mod Texts
