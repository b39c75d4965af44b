pub mod Names
pub mod Stop
pub mod Watch
pub mod Verdict
pub mod Line
pub mod Page
pub mod Fits
pub mod Struck
