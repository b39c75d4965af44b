pub mod Bytes
pub mod Ways
pub mod Hearing
pub mod Sent
pub mod Stays
pub mod Rest
