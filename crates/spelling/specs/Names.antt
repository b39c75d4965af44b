-- The names of src/ and of the crates below, for one `use` line.
pub use Rattle.std.specs.Prelude.{Option, Some, None}
pub use Rattle.code.specs.declared.Case.{Case}
pub use Rattle.code.specs.declared.Case.TheVariants.{Letters, Figures}
pub use Rattle.command.specs.declared.Verb.{Verb}
pub use Rattle.command.specs.declared.Verb.TheVariants.{Write, Read, Other}
pub use Rattle.command.specs.declared.Form.{Form}
pub use Rattle.command.specs.declared.Form.TheVariants.{Empty, Digits, Ex}
pub use Rattle.command.specs.declared.Stage.{Stage}
pub use Rattle.command.specs.declared.Stage.TheVariants.{Text, Swallow, Held, Begun, Lettered, Typed, Fields, Discard}
pub use Rattle.command.specs.declared.Reader.{Reader}
pub use Rattle.settings.specs.declared.Settings.{Settings}
pub use Rattle.settings.specs.declared.Connection.{Connection}
pub use Rattle.settings.specs.declared.Calling.{Calling}
pub use Rattle.sender.specs.declared.Sender.{Sender}
pub use Rattle.motor.specs.declared.Run.{Run}
pub use Rattle.motor.specs.declared.Run.TheVariants.{Off, Called, On}
pub use Rattle.motor.specs.declared.Motor.{Motor}
pub use Rattle.step.specs.declared.State.{State}
