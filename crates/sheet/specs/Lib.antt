pub mod Laws
pub mod Numerals
pub mod Orders
pub mod Reading
pub mod Report
pub mod Text
pub mod Writing
