-- The names of src/lib.rt, for one `use` line.
pub use Rattle.command.specs.declared.Verb.{Verb}
pub use Rattle.command.specs.declared.Verb.TheVariants.{Write, Read, Other}
pub use Rattle.command.specs.declared.Form.{Form}
pub use Rattle.command.specs.declared.Form.TheVariants.{Empty, Digits, Ex}
pub use Rattle.command.specs.declared.Stage.{Stage}
pub use Rattle.command.specs.declared.Stage.TheVariants.{Text, Swallow, Held, Begun, Lettered, Typed, Fields, Discard}
pub use Rattle.command.specs.declared.Reader.{Reader}
pub use Rattle.command.specs.declared.Out.{Out}
pub use Rattle.command.specs.declared.Out.TheVariants.{Nothing, One, Two, Finished}
pub use Rattle.command.specs.declared.Step.{Step}
pub use Rattle.command.specs.declared.Running.{Running}
