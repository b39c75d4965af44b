-- What is sent one after the other is sent as one list: in the record, as items, and in a buffer.
-- Assumes nothing.
use Prim.Native.Nat.{ℕ, ◌+◌, ◌-◌}
use mathlib.Core.Path.{◌≡◌, refl, sym, ap, ◌∙◌}
use mathlib.Core.List.{List, [], ◌∷◌, ◌++◌, append_assoc}
use borrow.Rule.Slice.PartMut.{put_mid, mid_of}
use lib.ListN.{length}
use Rattle.laws.proofs.Filled.{filled_on}
use Rattle.sender.specs.Names.{Settings, Record, Wanted, Sender, Noted}
use Rattle.sender.specs.Record.{note, notes}
use Rattle.sender.specs.Item.{items, after_item, after_items}
use Rattle.sender.specs.Run.{Notes}

pub notes_append : (o : Settings) (r : Record) (xs ys : List ℕ) → notes o r (xs ++ ys) ≡ notes o (notes o r xs) ys
notes_append o r [] ys = refl
notes_append o r (x ∷ xs) ys = notes_append o (note o r x) xs ys

pub items_append : (o : Settings) (s : Sender) (xs ys : List Wanted) → items o s (xs ++ ys) ≡ items o s xs ++ items o (after_items o s xs) ys
items_append o s [] ys = refl
items_append o s (x ∷ xs) ys = rw (items_append o (after_item o s x) xs ys, append_assoc)

pub after_append : (o : Settings) (s : Sender) (xs ys : List Wanted) → after_items o s (xs ++ ys) ≡ after_items o (after_items o s xs) ys
after_append o s [] ys = refl
after_append o s (x ∷ xs) ys = after_append o (after_item o s x) xs ys

-- some codes, and others after them
module _ (o : Settings) (r : Record) (a old mid : List ℕ) (x : Noted Record) (e : Notes o r a old mid x) (b : List ℕ) where
  pub noted_on : (ys : List ℕ) (y : Noted Record) → Notes o x.held b (mid_of x.count (length mid - x.count) mid) ys y
      → Notes o r (a ++ b) old (put_mid x.count (length mid - x.count) mid ys) (record { held = y.held; count = x.count + y.count })
  noted_on ys y f = record {
    held = f.held ∙ ap (λ (u : Record). notes o u b) e.held ∙ sym (notes_append o r a b);
    places = filled_on old mid a b ys x.count y.count e.places f.places;
  }
