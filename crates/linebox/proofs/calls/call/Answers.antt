-- `linebox::calls::call` meets its contract: a sound state is taken on, and any other answered 3.
use mathlib.Core.Path.{refl, sym, ◌∙◌}
use Rattle.linebox.proofs.calls.call.Goals as goal

pub take-requires : goal.take-requires
take-requires g c = sym c.is_sound.ensures ∙ c.if-is_sound.true

pub returns-then-is_sound : goal.returns-then-is_sound
returns-then-is_sound g c = rw (sym c.is_sound.ensures ∙ c.if-is_sound.true) (rw c.rest.ensures at c.take.ensures)

pub returns-else-is_sound : goal.returns-else-is_sound
returns-else-is_sound g c = rw (sym c.is_sound.ensures ∙ c.if-is_sound.false, c.ended.ensures) (record { gives = refl; one = refl; two = refl })
