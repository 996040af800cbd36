pub mod Then
pub mod Within
