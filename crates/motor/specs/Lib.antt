pub mod Names
pub mod Motor
pub mod Matching
pub mod Turning
pub mod Example
