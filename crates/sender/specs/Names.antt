-- The names of src/ and of the crates below, for one `use` line.
pub use Rattle.code.specs.declared.Case.{Case}
pub use Rattle.code.specs.declared.Case.TheVariants.{Letters, Figures}
pub use Rattle.code.specs.declared.Kind.{Kind}
pub use Rattle.code.specs.declared.Kind.TheVariants.{Still, Space, Return, Shift, Char}
pub use Rattle.code.specs.declared.Conversion.{Conversion}
pub use Rattle.code.specs.declared.Conversion.TheVariants.{Nothing, Free, Cased}
pub use Rattle.settings.specs.declared.Settings.{Settings}
pub use Rattle.std.specs.Prelude.{Option, Some, None}
pub use Rattle.sender.specs.declared.Record.{Record}
pub use Rattle.sender.specs.declared.Wanted.{Wanted}
pub use Rattle.sender.specs.declared.Sender.{Sender}
pub use Rattle.sender.specs.declared.Asks.{Asks}
pub use Rattle.sender.specs.declared.Asks.TheVariants.{Text, Codes}
pub use Rattle.sender.specs.declared.Until.{Until}
pub use Rattle.sender.specs.declared.Until.TheVariants.{Never, Byte, Above}
pub use Rattle.sender.specs.declared.Noted.{Noted}
pub use Rattle.sender.specs.declared.Sent.{Sent}
