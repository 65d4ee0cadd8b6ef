pub mod Arguments
pub mod Words
pub mod Flags
pub mod Options
pub mod Given
pub mod Tasks
pub mod Report
pub mod Counts
