pub mod Decimal
pub mod Names
pub mod Read
pub mod Reads
