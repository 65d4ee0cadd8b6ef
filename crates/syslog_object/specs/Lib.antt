pub mod Blocks
pub mod Gathered
pub mod Object
pub mod Written
pub mod Elements
pub mod Parts
pub mod Places
pub mod Writer
