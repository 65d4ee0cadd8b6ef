pub mod Names
pub mod ReadLemmas
pub mod MarkLemmas
pub mod RowLemmas
pub mod UniqueLemmas
