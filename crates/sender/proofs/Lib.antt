pub mod Append
pub mod After
mod Shifted
pub mod Few
mod Endings
mod OneItem
pub mod Sending
pub mod Spoken
