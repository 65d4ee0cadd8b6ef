pub mod Names
mod BlockLemmas
mod EscapeLemmas
mod GatherLemmas
mod WriterLemmas
pub mod UnescapedLemmas
pub mod WrittenLemmas
pub mod ElementsLemmas
