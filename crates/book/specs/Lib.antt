pub mod Reading
pub mod Opening
pub mod Calls
pub mod Laws
