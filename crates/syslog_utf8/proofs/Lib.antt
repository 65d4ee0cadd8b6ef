pub mod DecodeLemmas
