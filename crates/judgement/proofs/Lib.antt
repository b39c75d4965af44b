pub mod Stop
pub mod Once
pub mod Fits
pub mod Struck
pub mod Sums
pub mod Totals
