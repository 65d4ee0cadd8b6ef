-- Words that only the proofs of bodies use: the linear walk, and what is in printed form. No public clause of the
-- message needs them, and a reader of the claims can skip them.
pub mod Closing
pub mod Verbatim
