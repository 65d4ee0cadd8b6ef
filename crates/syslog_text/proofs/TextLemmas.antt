-- Texts by bytes and by characters: runs, numbers and words, and what is printed.
pub mod Bounded
pub mod Quotes
pub mod Runs
pub mod Words
