-- What looked at string 90 while it was a list of eight codes, text by text, and that each says the same of the word's codes. No other
-- definition looks at it.
-- Assumes nothing.
use Prim.Native.Nat.{ℕ}
use mathlib.Core.Path.{◌≡◌, refl, ap}
use mathlib.Core.Bool.{Bool, true, false, ◌&&◌, and-false}
use mathlib.Core.List.{List, [], ◌∷◌}
use native.Mathlib.Omega.{arith}
use borrow.Author.Tests.{leb-true, leb-false, lt-ltb, le-ltb}
use lib.Dec.{eqb, leb, ltb}
use lib.ListN.{length, get_or, take, set}
use Rattle.word.specs.Word.{unpacked, packed, is_word}
use Rattle.word.proofs.Words.{codes_packed, packed_codes}
use Rattle.settings.specs.Names.{Settings, Calling, Connection, Home, Version, Linked, Unlinked, Value, String, Power, Signal, Factory, Nowhere}
use Rattle.settings.specs.Table.{all_codes, padded, opens, sound_string, in_range, options, option_place, factory_values, factory, all_in, is_stand_in, sound_stand_in, sound_settings}
use Rattle.settings.specs.Options.{ending_codes}
use Rattle.settings.specs.Command.{store, values_at}
use Rattle.settings.proofs.Written.{string_back}

-- The old texts.

-- the settings, string 90 as its eight codes
pub record Before : Type 0 where
  pub values : List ℕ
  pub string : List ℕ

-- and CR CR LF LTRS LTRS for string 90
abbrev pub factory_before : Before
factory_before = record { values = factory_values options; string = 8 ∷ 8 ∷ 2 ∷ 31 ∷ 31 ∷ 0 ∷ 0 ∷ 0 ∷ [] }

-- codes are 0 to 31
abbrev pub all_codes_before : List ℕ → Bool
all_codes_before [] = true
all_codes_before (c ∷ cs) = leb c 31 && all_codes_before cs

-- the rules of string 90
abbrev pub string_before : List ℕ → Bool
string_before cs = all_codes_before cs && (padded cs && opens cs)

-- and string 90 with its eight codes, by its rules
abbrev pub sound_before : Before → Bool
sound_before s = all_in options s.values && (is_stand_in (get_or s.values (option_place options 77) 0) && (eqb (length s.string) 8 && string_before s.string))

-- the settings that a write stores
abbrev pub store_before : Before → Home → List ℕ → Before
store_before s Version ps = s
store_before s (Linked last) ps = s
store_before s Unlinked ps = s
store_before s (Value place low high) ps = record { values = set s.values place (get_or ps 0 0); string = s.string }
store_before s String ps = record { values = s.values; string = take 8 ps }
store_before s Power ps = s
store_before s (Signal place) ps = s
store_before s Factory ps = factory_before
store_before s Nowhere ps = s

-- the values of an id
abbrev pub values_before : Before → Calling → Connection → Home → List ℕ
values_before s k c Version = 0 ∷ 0 ∷ 1 ∷ 0 ∷ []
values_before s k c (Linked last) = c.port ∷ c.speed ∷ []
values_before s k c Unlinked = []
values_before s k c (Value place low high) = get_or s.values place 0 ∷ []
values_before s k c String = s.string
values_before s k c Power = k.power ∷ []
values_before s k c (Signal place) = unpacked (get_or k.strings place 0)
values_before s k c Factory = []
values_before s k c Nowhere = []

-- string 90: the line ending
abbrev pub codes_before : Before → List ℕ
codes_before o = o.string

-- Both forms stand for each other.

abbrev pub as_before : Settings → Before
as_before s = record { values = s.values; string = unpacked s.string }

abbrev pub as_now : Before → Settings
as_now b = record { values = b.values; string = packed b.string }

pub before_now : (b : Before) → length b.string ≡ 8 → all_codes b.string ≡ true → as_before (as_now b) ≡ b
before_now b l h = ap (λ (cs : List ℕ). record { values = b.values; string = cs }) (codes_packed b.string l h)

pub now_before : (s : Settings) → is_word s.string ≡ true → as_now (as_before s) ≡ s
now_before s h = ap (λ (n : ℕ). record { values = s.values; string = n }) (packed_codes s.string h)

-- The same is said of them.

pub factory_as_before : as_before factory ≡ factory_before
factory_as_before = refl

-- what is a code, and which strings obey the rules
pub codes_as_before : (cs : List ℕ) → all_codes cs ≡ all_codes_before cs
codes_as_before [] = refl
codes_as_before (c ∷ cs) = rw (codes_as_before cs) (ap (λ (b : Bool). b && all_codes_before cs) (go (leb c 31) refl))
  where
    go : (b : Bool) → leb c 31 ≡ b → ltb c 32 ≡ b
    go true e = lt-ltb c 32 (omega (arith, leb-true c 31 e))
    go false e = le-ltb c 32 (omega (arith, leb-false c 31 e))

pub string_as_before : (cs : List ℕ) → sound_string cs ≡ string_before cs
unfolding sound_string
string_as_before cs = rw (codes_as_before cs)

-- what is sound; and with an upper bit set nothing is
pub sound_as_before : (s : Settings) → is_word s.string ≡ true → sound_settings s ≡ sound_before (as_before s)
unfolding sound_settings sound_stand_in
sound_as_before s h = rw (h, string_as_before (unpacked s.string))

pub upper_unsound : (s : Settings) → is_word s.string ≡ false → sound_settings s ≡ false
unfolding sound_settings
upper_unsound s h = rw (h, and-false (sound_stand_in s)) (and-false (all_in options s.values))

-- what a write stores
pub store_as_before : (s : Settings) (k : Calling) (c : Connection) (h : Home) (n : ℕ) (ps : List ℕ) → length ps ≡ 9 → in_range h ps ≡ true → as_before (store s k c h n ps).settings ≡ store_before (as_before s) h ps
store_as_before s k c Version n ps l i = refl
store_as_before s k c (Linked last) n ps l i = refl
store_as_before s k c Unlinked n ps l i = refl
store_as_before s k c (Value place low high) n ps l i = refl
store_as_before s k c String n ps l i = ap (λ (cs : List ℕ). record { values = s.values; string = cs }) (string_back ps l i)
store_as_before s k c Power n ps l i = refl
store_as_before s k c (Signal place) n ps l i = refl
store_as_before s k c Factory n ps l i = refl
store_as_before s k c Nowhere n ps l i = refl

-- what a read answers
pub values_as_before : (s : Settings) (k : Calling) (c : Connection) (h : Home) → values_at s k c h ≡ values_before (as_before s) k c h
values_as_before s k c Version = refl
values_as_before s k c (Linked last) = refl
values_as_before s k c Unlinked = refl
values_as_before s k c (Value place low high) = refl
values_as_before s k c String = refl
values_as_before s k c Power = refl
values_as_before s k c (Signal place) = refl
values_as_before s k c Factory = refl
values_as_before s k c Nowhere = refl

-- what an ending sends
pub ending_as_before : (s : Settings) → ending_codes s ≡ codes_before (as_before s)
unfolding ending_codes
ending_as_before s = refl
