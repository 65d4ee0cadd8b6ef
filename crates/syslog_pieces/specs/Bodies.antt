-- Words that only the proofs of bodies use: what a clock shows, and the order in which a timestamp is read. No public
-- clause of the message needs them, and a reader of the claims can skip them.
pub mod Clock
pub mod MonthReading
