pub mod Text
pub mod Tables
pub mod Traces
