pub mod Names
pub mod OneCall
pub mod Session
pub mod Example
