pub mod Order
pub mod First
pub mod Keeping
pub mod Laws
