pub mod Names
pub mod FilterLemmas
pub mod ArgumentLemmas
pub mod AgainLemmas
