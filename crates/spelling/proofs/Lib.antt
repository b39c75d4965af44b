pub mod Parts
pub mod Places
pub mod Same
pub mod ReadBack
