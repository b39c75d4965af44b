-- The text of a vector.
use Rattle.std.specs.Prelude.{ℕ, zero, suc, ◌+◌, ◌*◌, ◌-◌, ◌%◌, cond, List, [], ◌∷◌, eqb, ltb, get_or, take, drop, ◌==◌}
use Rattle.std.specs.List.{position_or_len}
use Rattle.entries.specs.declared.text.Form.{Form}
use Rattle.entries.specs.declared.text.Form.TheVariants.{Escaped, Decimal}
use Rattle.entries.specs.declared.text.Piece.{Piece}

-- where a byte first stands, or the length where it stands nowhere
abbrev pub index_of : ℕ → List ℕ → ℕ
index_of x s = position_or_len (λ y. y == x) s

-- what stands before the first bar, or all where there is none
abbrev pub before_bar : List ℕ → List ℕ
before_bar s = take (index_of 124 s) s

-- what stands after the first bar, or nothing where there is none
abbrev pub after_bar : List ℕ → List ℕ
after_bar s = drop (suc (index_of 124 s)) s

-- the value of a hexadecimal digit, 0 where it is none
abbrev pub digit : ℕ → ℕ
digit x = cond (ltb x 48) 0 (cond (ltb x 58) (x - 48) (cond (ltb x 65) 0 (cond (ltb x 71) (x - 55) 0)))

-- the value of two hexadecimal digits
abbrev pub hex : ℕ → ℕ → ℕ
hex high low = digit high * 16 + digit low

-- the number after the first space, of one to three digits: its last eight bits
abbrev pub decimal : List ℕ → Piece
decimal s =
    cond (ltb (get_or s 2 0) 48) (record { byte = digit (get_or s 1 0); width = 2 })
    (cond (ltb (get_or s 3 0) 48) (record { byte = digit (get_or s 1 0) * 10 + digit (get_or s 2 0); width = 3 })
    (record { byte = (digit (get_or s 1 0) * 100 + digit (get_or s 2 0) * 10 + digit (get_or s 3 0)) % 256; width = 4 }))

-- a byte after a backslash: `\r`, `\n`, `\xNN` or itself
abbrev pub escape : List ℕ → Piece
escape s =
    cond (eqb (get_or s 1 0) 114) (record { byte = 13; width = 2 })
    (cond (eqb (get_or s 1 0) 110) (record { byte = 10; width = 2 })
    (cond (eqb (get_or s 1 0) 120) (record { byte = hex (get_or s 2 0) (get_or s 3 0); width = 4 })
    (record { byte = get_or s 1 0; width = 2 })))

-- a byte as itself or by an escape
abbrev pub escaped : List ℕ → Piece
escaped s = cond (eqb (get_or s 0 0) 92) (escape s) (record { byte = get_or s 0 0; width = 1 })

-- the first byte that a text spells in a form, and how many bytes it is spelled with
abbrev pub first_piece : Form → List ℕ → Piece
first_piece Escaped s = escaped s
first_piece Decimal s = decimal s

-- the bytes that a text spells, up to so many
abbrev pub decoded : Form → List ℕ → ℕ → List ℕ
decoded form s zero = []
decoded form [] (suc n) = []
decoded form (x ∷ xs) (suc n) = (first_piece form (x ∷ xs)).byte ∷ decoded form (drop (first_piece form (x ∷ xs)).width (x ∷ xs)) n
