pub mod Kept
pub mod Plainly
pub mod PlainText
pub mod Turns
pub mod Reached
pub mod Ending
pub mod Cutting
pub mod Told
