pub mod Names
pub mod Calls
pub mod Finds
