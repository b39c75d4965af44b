pub mod Cuts
pub mod Digits
pub mod Leads
pub mod Runs
pub mod Texts
