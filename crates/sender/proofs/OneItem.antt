-- One item: the ending and the code, dropped or not.
-- Assumes nothing.
use Prim.Native.Nat.{ℕ, ◌+◌, ◌-◌}
use mathlib.Core.Path.{◌≡◌}
use mathlib.Core.Bool.{Bool, ◌&&◌}
use mathlib.Core.List.{List, ◌++◌}
use borrow.Rule.Slice.PartMut.{put_mid, mid_of}
use lib.ListN.{length}
use Rattle.code.specs.Kinds.{kind_of, moves}
use Rattle.sender.specs.Names.{Kind, Settings, Record, Wanted, Noted}
use Rattle.sender.specs.Code.{send_as}
use Rattle.sender.specs.Ending.{due, ending, ending_before}
use Rattle.sender.specs.Item.{character}
use Rattle.sender.specs.Run.{Notes}
use Rattle.sender.proofs.Append.{noted_on}

-- the ending goes by whether the code moves the carriage
pub moved : (o : Settings) (r : Record) (w : Wanted) (k : Kind) (m : Bool) → k ≡ kind_of w.code → m ≡ moves w.case k → ending o r (m && due o r.column) ≡ ending_before o r w
moved o r w k m p q = rw (q, p)

-- the code after the ending
module _ (o : Settings) (r : Record) (w : Wanted) (old mid : List ℕ) (x : Noted Record) (e : Notes o r (ending_before o r w) old mid x) where
  abbrev c : List ℕ
  c = send_as o x.held.case w.case w.code

  codes : ending_before o r w ++ c ≡ character o r w
  codes = rw e.held

  pub character_put : (ys : List ℕ) (y : Noted Record) → Notes o x.held c (mid_of x.count (length mid - x.count) mid) ys y
      → Notes o r (character o r w) old (put_mid x.count (length mid - x.count) mid ys) (record { held = y.held; count = x.count + y.count })
  character_put ys y f = rw codes at (noted_on o r (ending_before o r w) old mid x e c ys y f)
