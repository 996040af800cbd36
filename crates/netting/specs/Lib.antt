pub mod Group
pub mod Whole
pub mod Nets
pub mod Laws
pub mod Wholes
