-- The theory of pieces: what it is to divide a text, whatever its pieces are; and how clauses see texts. It passes on
-- the words that most clauses cite.
pub mod Class
pub mod Format
pub mod Lists
pub mod Parts
pub mod Rules
pub mod View
pub use Class.*
pub use Lists.*
pub use View.*
