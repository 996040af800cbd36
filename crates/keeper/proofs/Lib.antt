pub mod Inserts
pub mod Firsts
pub mod Puts
pub mod Filling
