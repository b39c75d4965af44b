-- Where plain text runs.
use Rattle.std.specs.Prelude.{Bool, true, false}
use Rattle.command.specs.declared.Stage.{Stage}
use Rattle.command.specs.declared.Stage.TheVariants as stage

-- nothing is held
abbrev pub is_text : Stage → Bool
is_text stage.Text = true
is_text stage.Swallow = false
is_text stage.Held = false
is_text stage.Begun = false
is_text (stage.Lettered small t) = false
is_text (stage.Typed v) = false
is_text (stage.Fields v f last) = false
is_text stage.Discard = false
