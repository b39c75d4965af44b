-- A sound string brings the carriage home before anything moves it: so no ending starts another.
-- Assumes nothing.
use Prim.Native.Nat.{ℕ, suc, ◌≤◌}
use mathlib.Core.Path.{◌≡◌, refl, ap}
use mathlib.Core.Bool.{Bool, true, false, ◌||◌, ◌&&◌, false≢true}
use mathlib.Core.List.{List, [], ◌∷◌, ◌++◌}
use native.Mathlib.Omega.{arith}
use lib.Dec.{eqb, leb}
use lib.ListN.{length}
use borrow.Author.Tests.{eqb-true, leb-true}
use Rattle.std.proofs.lemmas.Bool.{and_parts}
use Rattle.code.specs.Rows.{row_at}
use Rattle.code.specs.Kinds.{kind_of, shifts}
use Rattle.settings.specs.Table.{all_codes, padded, opens, sound_string, sound_settings}
use Rattle.settings.specs.Options.{limit, onreturn, ending_codes}
use Rattle.settings.proofs.Held.{limit_in, ending_sound, eight_codes}
use Rattle.sender.specs.Record.{note_column, note_kind, note, notes}
use Rattle.sender.specs.Code.{unshift, send_kind}
use Rattle.sender.specs.Ending.{on_record, ending_of, until_zero}
use Rattle.sender.proofs.Few.{until_length}
use Rattle.agree.specs.Names.{Kind, Still, Space, Return, Shift, Char, Settings, Record}
use Rattle.agree.proofs.Weights.{weight, weight_append, weight_shifts, weight_ending, places, column_reach}

-- Codes that bring the carriage home: nothing moves it before the first return, and what follows weighs at most m.

abbrev pub HomeAt : ℕ → Kind → List ℕ → Type 0 → Type 0
HomeAt m Still cs rest = rest
HomeAt m Space cs rest = ⊥
HomeAt m Return cs rest = weight cs ≤ m
HomeAt m (Shift to) cs rest = rest
HomeAt m (Char bell) cs rest = ⊥

abbrev pub Home : ℕ → List ℕ → Type 0
Home m [] = ⊥
Home m (c ∷ cs) = HomeAt m (kind_of c) cs (Home m cs)

-- the same asked of a string, by its kinds
abbrev opens_at : Kind → Bool → Bool
opens_at Still rest = rest
opens_at Space rest = false
opens_at Return rest = true
opens_at (Shift to) rest = rest
opens_at (Char bell) rest = false

abbrev opening : List ℕ → Bool
opening [] = false
opening (c ∷ cs) = opens_at (kind_of c) (opening cs)

-- a sound string opens so: 8 is a return, and 2, 27 and 31 move nothing
sound_opens : (cs : List ℕ) → opens cs ≡ true → opening (until_zero cs) ≡ true
unfolding kind_of row_at
sound_opens [] h = absurd (false≢true h)
sound_opens (c ∷ cs) h = go (eqb c 8) (eqb c 2) (eqb c 27) (eqb c 31) refl refl refl refl (sound_opens cs) h
  where
    go : (cr lf figs ltrs : Bool) → eqb c 8 ≡ cr → eqb c 2 ≡ lf → eqb c 27 ≡ figs → eqb c 31 ≡ ltrs → (opens cs ≡ true → opening (until_zero cs) ≡ true)
        → (cr || ((lf || (figs || ltrs)) && opens cs)) ≡ true → opening (until_zero (c ∷ cs)) ≡ true
    go true lf figs ltrs a b d e rest h = rw (eqb-true c 8 a)
    go false true figs ltrs a b d e rest h = rw (eqb-true c 2 b) (rest h)
    go false false true ltrs a b d e rest h = rw (eqb-true c 27 d) (rest h)
    go false false false true a b d e rest h = rw (eqb-true c 31 e) (rest h)
    go false false false false a b d e rest h = absurd (false≢true h)

-- an ending brings the carriage home
ending_home : (m : ℕ) (o : Settings) (cs : List ℕ) → opening cs ≡ true → length cs ≤ suc m → (r : Record) → Home m (ending_of o r cs)
ending_home m o [] h short r = absurd (false≢true h)
ending_home m o (c ∷ cs) h short r = go (kind_of c) refl h (λ q. ending_home m o cs q (omega arith))
  where
    go : (k : Kind) → kind_of c ≡ k → opens_at k (opening cs) ≡ true → (opening cs ≡ true → (r : Record) → Home m (ending_of o r cs))
        → let s = send_kind o r.case (on_record r.case) k c in Home m (s ++ ending_of o (notes o r s) cs)
    go Still e h rest = rw e (rest h (note_kind o r Still))
    go Space e h rest = absurd (false≢true h)
    go Return e h rest =
        let u = shifts (unshift (onreturn o) r.case) in
        rw e (omega (arith, weight_append u (ending_of o (notes o r (c ∷ u)) cs), weight_shifts (unshift (onreturn o) r.case), weight_ending o (notes o r (c ∷ u)) cs))
    go (Shift to) e h rest = rw e (rest h (note_kind o r (Shift to)))
    go (Char bell) e h rest = absurd (false≢true h)

-- after such codes the column on record is at most m
pub home_column : (m : ℕ) (o : Settings) (cs : List ℕ) → Home m cs → (r : Record) → places (notes o r cs).column ≤ m
home_column m o [] h r = absurd h
home_column m o (c ∷ cs) h r = go (kind_of c) refl h (home_column m o cs)
  where
    go : (k : Kind) → kind_of c ≡ k → HomeAt m k cs (Home m cs) → (Home m cs → (r : Record) → places (notes o r cs).column ≤ m) → places (notes o (note o r c) cs).column ≤ m
    go Still e h rest = rest h (note o r c)
    go Space e h rest = absurd h
    go Return e h rest =
        let z : places (note o r c).column ≡ 0 = ap (λ k. places (note_column r.case r.column k)) e in
        omega (arith, column_reach o (note o r c) cs)
    go (Shift to) e h rest = rest h (note o r c)
    go (Char bell) e h rest = absurd h

-- What sound settings say of the limit and of string 90.

pub record Sound (o : Settings) : Type 0 where
  pub least : 10 ≤ limit o
  pub most : limit o ≤ 80
  pub home : (r : Record) → Home 7 (ending_of o r (until_zero (ending_codes o)))
  pub short : length (until_zero (ending_codes o)) ≤ 8

pub sound : (o : Settings) → sound_settings o ≡ true → Sound o
unfolding sound_string
sound o h =
    let limits = and_parts (leb 10 (limit o)) (leb (limit o) 80) (limit_in o h) in
    let string = and_parts (all_codes (ending_codes o)) (padded (ending_codes o) && opens (ending_codes o)) (ending_sound o h) in
    let opened = sound_opens (ending_codes o) (and_parts (padded (ending_codes o)) (opens (ending_codes o)) string.1).1 in
    let short : length (until_zero (ending_codes o)) ≤ 8 = omega (arith, until_length (ending_codes o), eight_codes o) in
    record {
      least = leb-true 10 (limit o) limits.0;
      most = leb-true (limit o) 80 limits.1;
      home = ending_home 7 o (until_zero (ending_codes o)) opened short;
      short = short;
    }
