-- What is on record stays there over events: one law for the column and the case, from that of items.
-- Assumes nothing.
use mathlib.Core.Path.{◌≡◌, sym, ap, ◌∙◌}
use mathlib.Core.Bool.{Bool, true, false, cond, ◌||◌, or-false, or_assoc, false≢true}
use mathlib.Core.List.{List, [], ◌∷◌}
use Rattle.sender.specs.Item.{items, after_items, fresh}
use Rattle.agree.specs.Sure.{ColumnSure, CaseSure, is_return, is_cased, holds}
use Rattle.agree.proofs.Told.{holds_append, column_told, case_told}
use Rattle.step.specs.Step.{step, Event, run}
use Rattle.demands.specs.Names.{Kind, Settings, Record, Sender, Wanted, State}
use Rattle.demands.specs.Lent.{lines}
use Rattle.demands.specs.Items.{items_of}
use Rattle.demands.specs.OnRecord.{Unconnected, OnRecord}
use Rattle.demands.proofs.Sending.{line_items, sender_items}

module _ (f : Kind → Bool) (K : Record → Type 0)
    (told : (o : Settings) (s : Sender) (ws : List Wanted) (b : Bool) → (b ≡ true → K s.held) → (b || holds f (items o s ws)) ≡ true → K (after_items o s ws).held)
  where
    events_told : (s : State) (es : List Event) (b : Bool) → Unconnected s es → (b ≡ true → K s.sender.held) → (b || holds f (lines s es)) ≡ true → K (run s es).sender.held
    events_told s [] b u before h = before (sym (or-false b) ∙ h)
    events_told s (e ∷ es) b u before h =
        let x = step e.stream s e.byte in
        let ws = items_of s e in
        let after : x.state.sender ≡ after_items s.settings s.sender ws = sender_items s e ∙ ap (λ (b : Bool). cond b fresh (after_items s.settings s.sender ws)) u.0 in
        let joined : ((b || holds f x.line) || holds f (lines x.state es)) ≡ true = or_assoc b (holds f x.line) (holds f (lines x.state es)) ∙ rw (holds_append f x.line (lines x.state es)) at h in
        events_told x.state es (b || holds f x.line) u.1 (λ q. rw after (told s.settings s.sender ws b before (rw (line_items s e) at q))) joined

-- After a return sent the column is on record, after a shift the case, until the next connection command that succeeds.
pub on_record : (s : State) (es : List Event) → Unconnected s es → OnRecord s es
on_record s es u = record {
  column = events_told is_return (λ r. ColumnSure r.column) column_told s es false u (λ h. absurd (false≢true h));
  case = events_told is_cased (λ r. CaseSure r.case) case_told s es false u (λ h. absurd (false≢true h));
}
