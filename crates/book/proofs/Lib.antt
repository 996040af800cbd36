pub mod Seats
pub mod Sound
pub mod Accepted
pub mod Events
pub mod Lawful
pub mod Restored
pub mod Places
