-- `settings::Setup::goes_together` meets its contract: of a write the stand-in is tested that it would store.
use mathlib.Core.Path.{ap, ◌∙◌}
use Rattle.settings.specs.Table.{is_stand_in, sound_stand_in}
use Rattle.settings.specs.Options.{stand_in}
use Rattle.settings.proofs.Setup.goes_together.Goals as goal

pub returns-in-Write : goal.returns-in-Write
unfolding sound_stand_in stand_in
returns-in-Write c = rw c.in-Write.is (c.is_stand_in.ensures ∙ ap is_stand_in c.stored_stand_in.ensures)
