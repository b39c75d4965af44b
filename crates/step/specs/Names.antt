-- The names of src/ and of the crates below, for one `use` line.
pub use Rattle.code.specs.declared.Case.{Case}
pub use Rattle.code.specs.declared.Case.TheVariants.{Letters, Figures}
pub use Rattle.code.specs.declared.Kind.{Kind}
pub use Rattle.code.specs.declared.Kind.TheVariants.{Still, Space, Return, Shift, Char}
pub use Rattle.command.specs.declared.Reader.{Reader}
pub use Rattle.command.specs.declared.Out.{Out}
pub use Rattle.command.specs.declared.Out.TheVariants.{Nothing, One, Two, Finished}
pub use Rattle.settings.specs.declared.Settings.{Settings}
pub use Rattle.settings.specs.declared.Calling.{Calling}
pub use Rattle.settings.specs.declared.Connection.{Connection}
pub use Rattle.settings.specs.declared.Stored.{Stored}
pub use Rattle.settings.specs.declared.Outcome.{Outcome}
pub use Rattle.sender.specs.declared.Wanted.{Wanted}
pub use Rattle.sender.specs.declared.Sender.{Sender}
pub use Rattle.motor.specs.declared.Motor.{Motor}
pub use Rattle.step.specs.declared.State.{State}
pub use Rattle.step.specs.declared.Stream.{Stream}
pub use Rattle.step.specs.declared.Stream.TheVariants.{Host, Line, Tu}
pub use Rattle.step.specs.declared.Route.{Route}
pub use Rattle.step.specs.declared.Route.TheVariants.{Dropped, ToPrinter, ToHost, ToTu}
pub use Rattle.step.specs.declared.NoRoom.{NoRoom}
pub use Rattle.step.specs.declared.Taken.{Taken}
pub use Rattle.sender.specs.declared.Asks.{Asks}
pub use Rattle.sender.specs.declared.Asks.TheVariants.{Text, Codes}
pub use Rattle.sender.specs.declared.Until.TheVariants.{Never}
pub use Rattle.step.specs.declared.Heard.{Heard}
