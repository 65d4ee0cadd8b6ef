pub mod Names
pub mod StructuredDataLemmas
