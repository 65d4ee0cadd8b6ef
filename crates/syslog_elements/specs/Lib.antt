pub mod Bodies
pub mod StructuredData
pub mod Words
