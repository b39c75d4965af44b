pub mod Walks
pub mod Heard
pub mod Matching
pub mod Sound
mod Told
mod Running
pub mod Turning
pub mod Calling
pub mod Example
