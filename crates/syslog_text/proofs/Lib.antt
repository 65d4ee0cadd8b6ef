pub mod Determined
pub mod Names
pub mod PieceLemmas
pub mod TextLemmas
