pub mod Marked
pub mod Objects
