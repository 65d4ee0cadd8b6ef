pub mod Bodies
pub mod Pieces
pub mod Text
pub mod Words
