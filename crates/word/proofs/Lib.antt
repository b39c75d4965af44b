pub mod Words
pub mod Packs
pub mod Bytes
