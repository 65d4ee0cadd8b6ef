pub mod CellLemmas
pub mod QuoteLemmas
pub mod RecordLemmas
