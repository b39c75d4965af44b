-- The names of src/lib.rt and of the crates below, for one `use` line.
pub use Rattle.code.specs.declared.Conversion.{Conversion}
pub use Rattle.code.specs.declared.Conversion.TheVariants.{Nothing, Free, Cased}
pub use Rattle.command.specs.declared.Verb.{Verb}
pub use Rattle.command.specs.declared.Verb.TheVariants.{Write, Read, Other}
pub use Rattle.settings.specs.declared.Settings.{Settings}
pub use Rattle.settings.specs.declared.Calling.{Calling}
pub use Rattle.settings.specs.declared.Connection.{Connection}
pub use Rattle.settings.specs.declared.Home.{Home}
pub use Rattle.settings.specs.declared.Home.TheVariants.{Version, Linked, Unlinked, Value, String, Power, Signal, Factory, Nowhere}
pub use Rattle.settings.specs.declared.Row.{Row}
pub use Rattle.settings.specs.declared.Fault.{Fault}
pub use Rattle.settings.specs.declared.Fault.TheVariants as fault
pub use Rattle.settings.specs.declared.Stored.{Stored}
pub use Rattle.settings.specs.declared.Outcome.{Outcome}
