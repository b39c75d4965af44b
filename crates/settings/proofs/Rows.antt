-- The rows of the table: what is tested of each holds of the row of any id.
-- Assumes nothing.
use Prim.Native.Nat.{ℕ, zero, suc}
use mathlib.Core.Path.{◌≡◌, refl}
use mathlib.Core.Bool.{Bool, true, false, cond, ◌&&◌, not}
use mathlib.Core.List.{List, [], ◌∷◌}
use native.Mathlib.Omega.{arith}
use borrow.Author.Tests.{eqb-true}
use lib.Dec.{eqb, leb, ltb}
use lib.ListN.{length}
use Rattle.std.proofs.lemmas.Bool.{and_parts}
use Rattle.settings.specs.Names.{Home, Version, Linked, Unlinked, Value, String, Power, Signal, Factory, Nowhere, Row}
use Rattle.settings.specs.Table.{Option, options, rows_from, undefined, seek, row}

-- The row that is sought.

all : (Row → Bool) → List Row → Bool
all p [] = true
all p (r ∷ rs) = p r && all p rs

sought : (p : Row → Bool) (rs : List Row) (n : ℕ) → p undefined ≡ true → all p rs ≡ true → p (seek rs n) ≡ true
unfolding all
sought p [] n u h = u
sought p (r ∷ rs) n u h = go (eqb n r.number) (sought p rs n u (and_parts (p r) (all p rs) h).1)
  where
    go : (b : Bool) → p (seek rs n) ≡ true → p (cond b r (seek rs n)) ≡ true
    go true rest = (and_parts (p r) (all p rs) h).0
    go false rest = rest

seek_number : (rs : List Row) (n : ℕ) → ((seek rs n).home ≡ Nowhere → ⊥) → (seek rs n).number ≡ n
seek_number [] n h = absurd (h refl)
seek_number (r ∷ rs) n h = go (eqb n r.number) refl (seek_number rs n) h
  where
    go : (b : Bool) → eqb n r.number ≡ b → (((seek rs n).home ≡ Nowhere → ⊥) → (seek rs n).number ≡ n) → ((cond b r (seek rs n)).home ≡ Nowhere → ⊥) → (cond b r (seek rs n)).number ≡ n
    go true e rest h = omega (arith, eqb-true n r.number e)
    go false e rest h = rest h

-- the row of an id has its number, unless there is none
pub found : (n : ℕ) → ((row n).home ≡ Nowhere → ⊥) → (row n).number ≡ n
unfolding row
found n h = seek_number (rows_from 0 options) n h

-- Least and greatest value of the option at a place.

abbrev pub low_at : List Option → ℕ → ℕ
low_at [] i = 0
low_at (x ∷ xs) zero = x.low
low_at (x ∷ xs) (suc i) = low_at xs i

abbrev pub high_at : List Option → ℕ → ℕ
high_at [] i = 0
high_at (x ∷ xs) zero = x.high
high_at (x ∷ xs) (suc i) = high_at xs i

-- What is tested of a row: its values are bytes, an option's range is that of its place, a string of 91 to 95 has one of five places, what
-- can be written can be read, and an id that the table does not have can be neither.

abbrev pub fits_home : Home → Bool → Bool → Bool
fits_home Version written read = not written
fits_home (Linked last) written read = leb last 255
fits_home Unlinked written read = true
fits_home (Value i low high) written read = read && ((ltb i (length options) && leb high 255) && (eqb low (low_at options i) && eqb high (high_at options i)))
fits_home String written read = read
fits_home Power written read = read
fits_home (Signal place) written read = read && ltb place 5
fits_home Factory written read = true
fits_home Nowhere written read = not written && not read

fits : Row → Bool
fits r = fits_home r.home r.written r.read

pub row_fits : (n : ℕ) → fits_home (row n).home (row n).written (row n).read ≡ true
unfolding row all fits
row_fits n = sought fits (rows_from 0 options) n refl refl

-- the number of an id is a byte, that of a string below 100
abbrev pub number_fits : Home → ℕ → Bool
number_fits Version n = leb n 255
number_fits (Linked last) n = leb n 255
number_fits Unlinked n = leb n 255
number_fits (Value i low high) n = leb n 255
number_fits String n = leb n 99
number_fits Power n = leb n 255
number_fits (Signal place) n = leb n 99
number_fits Factory n = leb n 255
number_fits Nowhere n = leb n 255

pub row_number : (n : ℕ) → number_fits (row n).home (row n).number ≡ true
unfolding row all
row_number n = sought (λ r. number_fits r.home r.number) (rows_from 0 options) n refl refl
