mod PartLemmas
mod ObjectLemmas
pub mod KeptLemmas
mod PairedLemmas
pub mod SentLemmas
