-- Demand 3. Between two bytes the state is sound, the record and the printer agree, and after a return the column is on record.
-- Assumes nothing.
use Prim.Native.Nat.{ℕ, suc}
use mathlib.Core.Path.{◌≡◌, refl, ap, ◌∙◌}
use mathlib.Core.Bool.{Bool, true, false, cond, ◌||◌, false≢true}
use mathlib.Core.List.{List, [], ◌∷◌}
use Rattle.settings.specs.Options.{ending_codes}
use Rattle.printer.specs.Printer.{hears}
use Rattle.sender.specs.Item.{items, after_items, fresh}
use Rattle.agree.specs.Agrees.{Agrees, Obeys}
use Rattle.agree.specs.Sure.{ColumnSure, is_return, holds}
use Rattle.agree.proofs.Agreement.{agreement, unknown_agrees}
use Rattle.agree.proofs.Folds.{items_noted}
use Rattle.agree.proofs.Told.{column_told}
use Rattle.step.specs.State.{sound, fresh_box}
use Rattle.step.specs.Step.{Event, run}
use Rattle.step.proofs.Stays.{sound_parts, sound_step, fresh_sound}
use Rattle.demands.specs.Names.{Settings, Wanted, Sender, Printer}
use Rattle.demands.specs.Writes.{connects}
use Rattle.demands.specs.Items.{items_of}
use Rattle.demands.specs.Lent.{lines}
use Rattle.demands.specs.Story.{Scene, start, does, turned, Obedient}
use Rattle.demands.specs.Printing.{Keeps, Holds, Prints}
use Rattle.demands.proofs.Sending.{line_items, sender_items}
use Rattle.demands.proofs.Reading.{items_read}
use Rattle.demands.proofs.Stretches.{items_printed}
use Rattle.demands.proofs.Landing.{items_within}

record Stands (x : Scene) : Type 0 where
  sound : sound x.state ≡ true
  agrees : Agrees x.state.sender.held x.printer
  sure : x.returned ≡ true → ColumnSure x.state.sender.held.column

module _ (x : Scene) (e : Event) (other : Printer) (stands : Stands x) (obeys : Obeys x.state.settings x.printer (does x e).line) where
  abbrev o : Settings
  o = x.state.settings

  abbrev sender : Sender
  sender = x.state.sender

  abbrev ws : List Wanted
  ws = items_of x.state e

  -- what is obeyed of the line is obeyed of the items
  obeys_items : Obeys o x.printer (items o sender ws)
  obeys_items = rw (line_items x.state e) at obeys

  keeps : Keeps x e
  unfolding ending_codes
  keeps = record {
    agrees = stands.agrees;
    printed = rw (line_items x.state e, ← items_read x.state e) (items_printed o sender x.printer ws obeys_items stands.agrees);
    margin = λ on.
        let parts = sound_parts x.state stands.sound in
        rw (line_items x.state e) (items_within o parts.held.settings on sender x.printer ws x.returned stands.sure obeys_items stands.agrees);
  }

  -- The same stands after the byte.

  -- a connection leaves nothing on record
  sender_after : (b : Bool) → connects x.state e ≡ b → (turned x e other).state.sender ≡ cond b fresh (after_items o sender ws)
  sender_after b c = sender_items x.state e ∙ ap (λ (q : Bool). cond q fresh (after_items o sender ws)) c

  -- a byte that does not connect: the printer has heard its codes, and a return among them tells the column
  heard : Agrees (after_items o sender ws).held (hears x.printer (does x e).line)
  heard = rw (items_noted o sender ws, line_items x.state e) (agreement o sender.held x.printer (items o sender ws) obeys_items stands.agrees)

  told : (x.returned || holds is_return (does x e).line) ≡ true → ColumnSure (after_items o sender ws).held.column
  told q = column_told o sender ws x.returned stands.sure (rw (line_items x.state e) at q)

  stands_turned : Stands (turned x e other)
  stands_turned = go (connects x.state e) refl
    where
      safe : sound (does x e).state ≡ true
      safe = sound_step e.stream x.state e.byte stands.sound

      go : (b : Bool) → connects x.state e ≡ b → Stands (turned x e other)
      go true c = rw c (record { sound = safe; agrees = rw (sender_after true c) (unknown_agrees other); sure = λ q. absurd (false≢true q) })
      go false c = rw c (record { sound = safe; agrees = rw (sender_after false c) heard; sure = λ q. rw (sender_after false c) (told q) })

holds_from : (joining : ℕ → Printer) (n : ℕ) (x : Scene) (es : List Event) → Stands x → Obedient joining n x es → Holds joining n x es
holds_from joining n x [] h obeys = h.agrees
holds_from joining n x (e ∷ es) h obeys =
    let other = joining n in
    (keeps x e other h obeys.0, holds_from joining (suc n) (turned x e other) es (stands_turned x e other h obeys.0) obeys.1)

-- What any bytes send from a fresh box prints.
pub lines_print : (es : List Event) → Prints es (lines fresh_box es) (run fresh_box es)
lines_print es = record {
  codes = refl;
  state = refl;
  holds = λ p joining obeys. holds_from joining 0 (start p) es (record { sound = fresh_sound; agrees = unknown_agrees p; sure = λ q. absurd (false≢true q) }) obeys;
}
