pub mod Names
pub mod ArgumentLemmas
pub mod DateLemmas
pub mod WordLemmas
pub mod ValueLemmas
pub mod FlagLemmas
pub mod OptionLemmas
pub mod ReportLemmas
