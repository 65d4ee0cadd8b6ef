-- Words that only laws and the proofs of bodies use. A reader of the claims can skip them.
pub mod Cases
pub mod Rows
pub mod Jumps
pub mod Start
pub mod View3164
pub mod View5424
