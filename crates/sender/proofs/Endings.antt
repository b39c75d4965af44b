-- An ending code by code: what stands before the rest of the string, and the record after it.
-- Assumes nothing.
use Prim.Native.Nat.{ℕ, ◌+◌, ◌-◌}
use mathlib.Core.Path.{◌≡◌, sym, ◌∙◌}
use mathlib.Core.List.{List, ◌∷◌, ◌++◌, append_assoc}
use mathlib.Core.Bool.{false}
use lib.Dec.{eqb}
use borrow.Rule.Slice.PartMut.{put_mid, mid_of}
use lib.ListN.{length}
use Rattle.sender.specs.Names.{Settings, Record, Noted}
use Rattle.sender.specs.Record.{notes}
use Rattle.sender.specs.Ending.{ending_code, ending_of, until_zero}
use Rattle.sender.specs.Run.{Notes}
use Rattle.sender.proofs.Append.{noted_on}

-- where the loop is: some of the string's codes went out as p, and the others are still to come
pub record Ending (o : Settings) (start : Record) (string old : List ℕ) (others now : List ℕ) (x : Noted Record) : Type 0 where
  pub p : List ℕ
  pub noted : Notes o start p old now x
  pub rest : ending_of o start (until_zero string) ≡ p ++ ending_of o x.held (until_zero others)

-- one code more
module _ (o : Settings) (start : Record) (string old others now : List ℕ) (x : Noted Record) (e : Ending o start string old others now x)
    (c : ℕ) (cs : List ℕ) (first : others ≡ c ∷ cs) (z : eqb c 0 ≡ false) where
  abbrev sent : List ℕ
  sent = ending_code o x.held.case c

  one : ending_of o start (until_zero string) ≡ e.p ++ (sent ++ ending_of o (notes o x.held sent) (until_zero cs))
  one = e.rest ∙ rw (first, z)

  pub ending_turn : (ys : List ℕ) (y : Noted Record) → Notes o x.held sent (mid_of x.count (length now - x.count) now) ys y
      → Ending o start string old cs (put_mid x.count (length now - x.count) now ys) (record { held = y.held; count = x.count + y.count })
  ending_turn ys y f = record {
    p = e.p ++ sent;
    noted = noted_on o start e.p old now x e.noted sent ys y f;
    rest = one ∙ rw f.held (sym (append_assoc e.p sent _));
  }
