pub mod Names
pub mod PriLemmas
pub mod ProcIdLemmas
pub mod TimestampLemmas
