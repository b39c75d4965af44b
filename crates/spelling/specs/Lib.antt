pub mod Names
pub mod Spelling
pub mod Back
