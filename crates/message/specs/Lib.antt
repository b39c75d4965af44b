pub mod Message
pub mod Made
pub mod Find
pub mod Scan
pub mod Located
