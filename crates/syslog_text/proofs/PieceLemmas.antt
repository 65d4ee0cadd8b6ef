-- The theory of pieces: one text has one division.
pub mod Class
pub mod Lists
pub mod Rules
