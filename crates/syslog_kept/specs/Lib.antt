pub mod Part
pub mod Elements
pub mod Kept
pub mod Paired
pub mod Sent
