pub mod Dialects
pub mod Found
pub mod Note
pub mod Ordinary
pub mod Paired
pub mod PriorityAlone
pub mod SentLine
pub mod SentReading
