pub mod Sums
pub mod Sizes
pub mod Orders
pub mod Membership
pub mod Additive
