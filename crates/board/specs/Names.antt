-- The names of the box, for one `use` line.
pub use Rattle.step.specs.declared.Stream.{Stream}
pub use Rattle.step.specs.declared.Stream.TheVariants.{Host, Line, Tu}
pub use Rattle.linebox.specs.declared.Called.{Called}
