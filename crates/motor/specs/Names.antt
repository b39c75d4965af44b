-- The names of src/lib.rt and of the settings, for one `use` line.
pub use Rattle.settings.specs.declared.Calling.{Calling}
pub use Rattle.motor.specs.declared.Motor.{Motor}
pub use Rattle.motor.specs.declared.Run.{Run}
pub use Rattle.motor.specs.declared.Run.TheVariants.{Off, Called, On}
