pub mod Names
pub mod Call
pub mod Ends
pub mod Plain
