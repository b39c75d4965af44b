-- What a byte more does to the numbers that are read, as the code meets it.
-- Assumes nothing.
use Prim.Native.Nat.{ℕ, ◌+◌, ◌*◌, ◌-◌, ◌≤◌, ◌<◌}
use mathlib.Core.Path.{◌≡◌, sym}
use mathlib.Core.Bool.{true}
use mathlib.Core.List.{List}
use native.Mathlib.Numerals.{add-one}
use borrow.Author.Tests.{ne_eqb, le-leb, leb-true}
use lib.Dec.{leb}
use lib.ListN.{length, get_or, drop}
use lib.Seq.{drop-cons}
use Rattle.std.proofs.Common.{Option, Some, option_and_then}
use Rattle.std.proofs.lemmas.Bool.{and_parts}
use Rattle.message.specs.declared.Phase.{Phase}
use Rattle.message.specs.declared.Scan.{Scan}
use Rattle.message.specs.declared.Scan.TheVariants.{In}
use Rattle.message.specs.Message.{crlf}
use Rattle.message.specs.Scan.{is_digit, more, scan, complete, prefix, ends_here, numbers_from}

pub digit_bounds : (b : ℕ) → is_digit b ≡ true → (48 ≤ b) × (b ≤ 57)
digit_bounds b e = let p = and_parts (leb 48 b) (leb b 57) e in (leb-true _ _ p.0, leb-true _ _ p.1)

module _ (p : Phase) (v b : ℕ) where
  pub more_fits : (x y : ℕ) → (v ≡ 0 → ⊥) → x ≡ v → y ≡ b - 48 → x * 10 + y ≤ 255 → Some (In p (x * 10 + y)) ≡ more p v b
  more_fits x y z e f h = rw (ne_eqb v 0 z, sym e, sym f, le-leb (x * 10 + y) 255 h)

  pub in_digit : (st : Option Scan) → (b ≡ 44 → ⊥) → is_digit b ≡ true → st ≡ more p v b → st ≡ scan (In p v) b
  in_digit st z e f = rw (ne_eqb b 44 z, e) f

-- where the numbers may end and CR LF follows, they end
module _ (st : Scan) (k : ℕ) (s : List ℕ) where
  pub ends_here_law : prefix crlf s ≡ true → complete st ≡ true → Some k ≡ ends_here st k s
  ends_here_law e f = rw (e, f)

module _ (st : Scan) (k : ℕ) (s : List ℕ) (i : ℕ) where
  pub numbers_next : i < length s → (get_or s i 0 ≡ 13 → ⊥) → (next : Option Scan) → next ≡ scan st (get_or s i 0)
      → numbers_from st k (drop i s) ≡ option_and_then (λ x. numbers_from x (k + 1) (drop (i + 1) s)) next
  numbers_next h e next f = rw (drop-cons s i 0 h, ne_eqb (get_or s i 0) 13 e, f, add-one k, add-one i)
