pub mod Figures
pub mod Formulas
pub mod Legs
pub mod Limits
pub mod Lines
pub mod Overnight
pub mod Rounding
