pub mod Agreement
pub mod Folds
pub mod Prints
pub mod Weights
pub mod Home
pub mod Told
pub mod Margin
pub mod Length
