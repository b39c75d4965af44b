pub mod Names
pub mod Record
pub mod Code
pub mod Ending
pub mod Reading
pub mod Item
pub mod After
pub mod Run
