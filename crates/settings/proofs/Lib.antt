pub mod Walk
pub mod Strings
pub mod Accept
pub mod Rows
pub mod Held
pub mod Written
pub mod Sent
pub mod Before
