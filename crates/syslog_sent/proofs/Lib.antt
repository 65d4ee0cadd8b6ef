pub mod DateLemmas
pub mod Determined
pub mod DialectLemmas
pub mod FormLemmas
pub mod LedLemmas
pub mod NamedLemmas
pub mod RunLemmas
pub mod ZoneLemmas
