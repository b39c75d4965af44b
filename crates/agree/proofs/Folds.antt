-- What is printed and obeyed of two lists joined, what shifts print, and what holds of an item and of many.
-- Assumes nothing.
use Prim.Native.Nat.{ℕ}
use mathlib.Core.Path.{◌≡◌, refl}
use mathlib.Core.Bool.{Bool, true, false, cond, ◌&&◌}
use mathlib.Core.List.{List, [], ◌∷◌, ◌++◌, append_assoc}
use Rattle.code.specs.Kinds.{kind_of, shifts}
use Rattle.code.proofs.Laws.{kind_shift}
use Rattle.settings.specs.Options.{filter}
use Rattle.printer.specs.Printer.{hear_kind, hear, hears, prints_all}
use Rattle.sender.specs.Record.{notes}
use Rattle.sender.specs.Item.{character, last_of, repeats, item, after_item, items, after_items}
use Rattle.sender.proofs.Append.{notes_append}
use Rattle.agree.specs.Names.{Case, Shift, Settings, Printer, Wanted, Sender}
use Rattle.agree.specs.Agrees.{Obeys}

pub prints_append : (p : Printer) (xs ys : List ℕ) → prints_all p (xs ++ ys) ≡ prints_all p xs ++ prints_all (hears p xs) ys
prints_append p [] ys = refl
prints_append p (x ∷ xs) ys = rw (prints_append (hear p x) xs ys, append_assoc)

pub obeys_append : (o : Settings) (p : Printer) (xs ys : List ℕ) → Obeys o p (xs ++ ys) → Obeys o p xs × Obeys o (hears p xs) ys
obeys_append o p [] ys h = (tt, h)
obeys_append o p (x ∷ xs) ys h = let t = obeys_append o (hear p x) xs ys h.1 in ((h.0, t.0), t.1)

pub prints_shifts : (p : Printer) (ts : List Case) → prints_all p (shifts ts) ≡ []
prints_shifts p [] = refl
prints_shifts p (to ∷ ts) = rw (kind_shift to) (prints_shifts (hear_kind p (Shift to)) ts)

-- an item is nothing, or its character
pub item_cases : (o : Settings) (s : Sender) (w : Wanted) (P : List ℕ → Type 0) → P [] → P (character o s.held w) → P (item o s w)
item_cases o s w P dropped sent = go (repeats (last_of (kind_of w.code)) s.last && filter o)
  where
    go : (b : Bool) → P (cond b [] (character o s.held w))
    go true = dropped
    go false = sent

-- the record after items is the fold over their codes
pub items_noted : (o : Settings) (s : Sender) (ws : List Wanted) → (after_items o s ws).held ≡ notes o s.held (items o s ws)
items_noted o s [] = refl
items_noted o s (w ∷ ws) = rw (notes_append o s.held (item o s w) (items o (after_item o s w) ws)) (items_noted o (after_item o s w) ws)
