-- The names of the crates below, for one `use` line.
pub use Rattle.code.specs.declared.Case.{Case}
pub use Rattle.code.specs.declared.Case.TheVariants.{Letters, Figures}
pub use Rattle.code.specs.declared.Kind.{Kind}
pub use Rattle.code.specs.declared.Kind.TheVariants.{Still, Space, Return, Shift, Char}
pub use Rattle.code.specs.declared.Conversion.{Conversion}
pub use Rattle.code.specs.declared.Conversion.TheVariants.{Nothing, Free, Cased}
pub use Rattle.settings.specs.declared.Settings.{Settings}
pub use Rattle.printer.specs.declared.Printer.{Printer}
pub use Rattle.std.specs.Prelude.{Option, Some, None}
pub use Rattle.printer.specs.declared.Mark.{Mark}
pub use Rattle.sender.specs.declared.Record.{Record}
pub use Rattle.sender.specs.declared.Wanted.{Wanted}
pub use Rattle.sender.specs.declared.Sender.{Sender}
