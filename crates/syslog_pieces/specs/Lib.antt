pub mod Bodies
pub mod Pri
pub mod ProcId
pub mod Timestamp
pub mod Front
pub mod Words
