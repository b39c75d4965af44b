pub mod Names
pub mod Table
pub mod Options
pub mod Numbers
pub mod Command
pub mod Laws
