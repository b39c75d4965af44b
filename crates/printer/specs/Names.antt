-- The names of src/lib.rt and of the code, for one `use` line.
pub use Rattle.code.specs.declared.Case.{Case}
pub use Rattle.code.specs.declared.Case.TheVariants.{Letters, Figures}
pub use Rattle.code.specs.declared.Kind.{Kind}
pub use Rattle.code.specs.declared.Kind.TheVariants.{Still, Space, Return, Shift, Char}
pub use Rattle.printer.specs.declared.Printer.{Printer}
pub use Rattle.std.specs.Prelude.{Option, Some, None}
pub use Rattle.printer.specs.declared.Mark.{Mark}
