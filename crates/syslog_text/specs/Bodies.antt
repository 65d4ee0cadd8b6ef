-- Words that only the proofs of bodies use: places in bytes, and what the first bytes of a text are. No public clause
-- of the message needs them, and a reader of the claims can skip them.
pub mod Looks
pub mod Scan
