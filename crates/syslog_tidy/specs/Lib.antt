pub mod Filters
pub mod Arguments
