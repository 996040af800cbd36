pub mod Funds
pub mod Books
pub mod Openings
pub mod Drawing
pub mod Lines
pub mod Transfers
pub mod Laws
pub mod Drawn
