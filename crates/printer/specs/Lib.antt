pub mod Names
pub mod Printer
