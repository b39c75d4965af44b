pub mod Names
pub mod Route
pub mod State
pub mod Hear
pub mod Step
pub mod Byte
pub mod Laws
