-- The names of the crates below, for one `use` line.
pub use Rattle.step.specs.declared.State.{State}
pub use Rattle.step.specs.declared.Stream.{Stream}
pub use Rattle.step.specs.declared.Stream.TheVariants.{Host, Line, Tu}
