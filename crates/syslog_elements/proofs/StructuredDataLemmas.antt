-- Values, elements and lists, the walk over them and what it counts, and escapes.
pub mod Closing
pub mod Elements
pub mod Pairs
pub mod Tallies
pub mod Units
pub mod Unparsed
pub mod Walk
