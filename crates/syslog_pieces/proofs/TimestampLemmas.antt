-- What is known of timestamps beyond the contracts of their functions.
pub mod Civil
pub mod Decimals
pub mod Digits
pub mod MonthDate
pub mod Rfc3339
