pub mod Names
pub mod Agrees
pub mod Margin
pub mod Sure
