pub mod Call
pub mod Conversion
pub mod Grammar
pub mod Ids
pub mod Joined
pub mod Pushing
pub mod Value
