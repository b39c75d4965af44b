pub mod Options
pub mod Show
pub mod Reading
