-- How many codes one code is with its shifts: two at most; and a byte, whatever string 90 holds: two for each of its eight codes and two
-- for the byte's own, eighteen at most.
-- Assumes nothing.
use Prim.Native.Nat.{ℕ, ◌*◌, ◌≤◌}
use mathlib.Core.Bool.{Bool, true, false, cond, ◌&&◌}
use mathlib.Core.List.{List, [], ◌∷◌, append-nil}
use native.Mathlib.Omega.{arith}
use lib.Dec.{eqb}
use lib.ListN.{length, length-append}
use Rattle.code.specs.Kinds.{kind_of, shifts, moves}
use Rattle.settings.specs.Options.{onspace, onreturn, filter, ending_codes}
use Rattle.settings.proofs.Held.{eight_codes}
use Rattle.sender.specs.Names.{Case, Letters, Figures, Kind, Still, Space, Return, Shift, Char, Conversion, Nothing, Free, Cased, Settings, Record, Wanted, Sender, Text, Option, Some, None}
use Rattle.sender.specs.Record.{notes}
use Rattle.sender.specs.Code.{shift_to, unshift, send_kind, send_as}
use Rattle.sender.specs.Ending.{on_record, ending_code, ending_of, until_zero, due, ending, ending_before}
use Rattle.sender.specs.Item.{character, last_of, repeats, item, items, wanted, wanted_of, converted, wanted_by, wanted_text}

shift_length : (n : Option Case) (want : Case) → length (shifts (shift_to n want)) ≤ 1
shift_length None want = omega arith
shift_length (Some Letters) Letters = omega arith
shift_length (Some Letters) Figures = omega arith
shift_length (Some Figures) Letters = omega arith
shift_length (Some Figures) Figures = omega arith

unshift_length : (b : Bool) (n : Option Case) → length (shifts (unshift b n)) ≤ 1
unshift_length true n = shift_length n Letters
unshift_length false n = omega arith

pub kind_length : (o : Settings) (n : Option Case) (want : Case) (c : ℕ) (k : Kind) → length (send_kind o n want k c) ≤ 2
kind_length o n want c Still = omega arith
kind_length o n want c Space = omega (arith, unshift_length (onspace o) n)
kind_length o n want c Return = omega (arith, unshift_length (onreturn o) n)
kind_length o n want c (Shift to) = omega arith
kind_length o n want c (Char bell) = rw (length-append (shifts (shift_to n want)) (c ∷ [])) (omega (arith, shift_length n want))

pub code_length : (o : Settings) (n : Option Case) (want : Case) (c : ℕ) → length (send_as o n want c) ≤ 2
code_length o n want c = kind_length o n want c (kind_of c)

ending_length : (o : Settings) (r : Record) (cs : List ℕ) → length (ending_of o r cs) ≤ 2 * length cs
ending_length o r [] = omega arith
ending_length o r (c ∷ cs) =
    let x = ending_code o r.case c in
    rw (length-append x (ending_of o (notes o r x) cs)) (omega (arith, code_length o r.case (on_record r.case) c, ending_length o (notes o r x) cs))

-- the codes of string 90
pub until_length : (cs : List ℕ) → length (until_zero cs) ≤ length cs
until_length [] = omega arith
until_length (c ∷ cs) = go (eqb c 0) (until_length cs)
  where
    go : (b : Bool) → length (until_zero cs) ≤ length cs → length (cond b [] (c ∷ until_zero cs)) ≤ length (c ∷ cs)
    go true h = omega arith
    go false h = omega arith

-- a byte is one item at most
pub wanted_few : (x : Conversion) → length (wanted_of x) ≤ 1
wanted_few Nothing = omega arith
wanted_few (Free c) = omega arith
wanted_few (Cased case c) = omega arith

-- and a text no more than it has bytes
pub text_few : (o : Settings) (bs : List ℕ) → length (wanted_text o bs) ≤ length bs
text_few o [] = omega arith
text_few o (b ∷ bs) = rw (length-append (wanted_by o Text b) (wanted_text o bs)) (omega (arith, wanted_few (converted o Text b), text_few o bs))

module _ (o : Settings) where
  ending_most : (r : Record) (b : Bool) → length (ending o r b) ≤ 16
  ending_most r true = omega (arith, ending_length o r (until_zero (ending_codes o)), until_length (ending_codes o), eight_codes o)
  ending_most r false = omega arith

  character_most : (r : Record) (w : Wanted) → length (character o r w) ≤ 18
  character_most r w =
      let e = ending_before o r w in
      let n = (notes o r e).case in
      rw (length-append e (send_as o n w.case w.code))
      (omega (arith, ending_most r (moves w.case (kind_of w.code) && due o r.column), code_length o n w.case w.code))

  item_most : (s : Sender) (w : Wanted) → length (item o s w) ≤ 18
  item_most s w = go (repeats (last_of (kind_of w.code)) s.last && filter o)
    where
      go : (b : Bool) → length (cond b [] (character o s.held w)) ≤ 18
      go true = omega arith
      go false = character_most s.held w

  -- a byte's codes
  pub byte_most : (s : Sender) (x : Conversion) → length (items o s (wanted_of x)) ≤ 18
  byte_most s Nothing = omega arith
  byte_most s (Free c) = rw append-nil (item_most s (wanted Letters c))
  byte_most s (Cased case c) = rw append-nil (item_most s (wanted case c))
