-- The words of a record: codes in decimal, with white space between. On a log sheet the word `line` stands before them, and
-- `host` ends them.
use Rattle.std.specs.Prelude.{ℕ, min, ◌+◌, ◌-◌, ◌*◌, Bool, cond, ◌||◌, eqb, ltb, set, take, replicate, List, [], ◌∷◌, bytes_eq, codes, Option, Some, None, option_map, option_and_then, Result, Ok, Err}
use Rattle.words.specs.Names.{Phase, Start, Bare, Sheet, Ended, Word, BadWord, Reader, Read}
use Rattle.words.specs.Names.word

-- tab, LF, CR and space
abbrev pub white : ℕ → Bool
white b = eqb b 32 || eqb b 10 || eqb b 9 || eqb b 13

-- the value of a decimal digit
abbrev pub value : ℕ → Option ℕ
value x = cond (ltb x 48) None (cond (ltb x 58) (Some (x - 48)) None)

-- a number of one or two digits is a code up to 31
abbrev pub coded : ℕ → Option Word
coded n = cond (ltb n 32) (Some (word.Code n)) None

abbrev pub one_digit : ℕ → Option Word
one_digit x = option_map word.Code (value x)

abbrev pub two_digits : ℕ → ℕ → Option Word
two_digits x y = option_and_then (λ m. option_and_then (λ n. coded (m * 10 + n)) (value y)) (value x)

-- a word of one or two bytes is a number
abbrev pub digits : List ℕ → Option Word
digits [] = None
digits (x ∷ []) = one_digit x
digits (x ∷ (y ∷ [])) = two_digits x y
digits (x ∷ (y ∷ (z ∷ zs))) = None

-- what a word is by itself
abbrev pub word_of : List ℕ → Option Word
word_of s = cond (bytes_eq s (codes "line")) (Some word.Line) (cond (bytes_eq s (codes "host")) (Some word.Host) (digits s))

-- the word that is held; none is longer than 16 bytes
abbrev pub word_held : Reader → Option Word
word_held r = cond (ltb 16 r.size) None (word_of (take r.size r.held))

-- a bad word
abbrev pub bad : Result (Option ℕ) BadWord
bad = Err (record {})

-- where a word may stand: a code is read, a name in its place is not, and any other word is bad
abbrev pub item_at : Phase → Option Word → Result (Option ℕ) BadWord
item_at Start (Some word.Line) = Ok None
item_at Sheet (Some word.Host) = Ok None
item_at Ended x = Ok None
item_at Start (Some (word.Code c)) = Ok (Some c)
item_at Bare (Some (word.Code c)) = Ok (Some c)
item_at Sheet (Some (word.Code c)) = Ok (Some c)
item_at Start (Some word.Host) = bad
item_at Start None = bad
item_at Bare (Some word.Line) = bad
item_at Bare (Some word.Host) = bad
item_at Bare None = bad
item_at Sheet (Some word.Line) = bad
item_at Sheet None = bad

abbrev pub phase_after : Phase → Option Word → Phase
phase_after Start (Some word.Line) = Sheet
phase_after Start (Some word.Host) = Start
phase_after Start None = Start
phase_after Start (Some (word.Code c)) = Bare
phase_after Bare x = Bare
phase_after Sheet (Some word.Host) = Ended
phase_after Sheet (Some word.Line) = Sheet
phase_after Sheet None = Sheet
phase_after Sheet (Some (word.Code c)) = Sheet
phase_after Ended x = Ended

abbrev pub fresh : Reader
fresh = record { held = replicate 16 0; size = 0; place = 1; phase = Start }

-- the next word
abbrev pub next : Reader → Phase → Reader
next r phase = record { held = r.held; size = 0; place = min 0xffff_ffff_ffff_ffff (r.place + 1); phase = phase }

-- a word is read at the white space after it; one that is bad stays held
abbrev pub settled : Result (Option ℕ) BadWord → Reader → Phase → Read
settled (Err e) r phase = record { reader = r; item = Err e }
settled (Ok code) r phase = record { reader = next r phase; item = Ok code }

abbrev pub waiting : Reader → Read
waiting r = record { reader = r; item = Ok None }

abbrev pub finish : Reader → Read
finish r = cond (eqb r.size 0) (waiting r) (settled (item_at r.phase (word_held r)) r (phase_after r.phase (word_held r)))

-- one byte more of a word; past 16 they are only counted, up to 17
abbrev pub more : Reader → ℕ → Reader
more r b = record { held = cond (ltb r.size 16) (set r.held r.size b) r.held; size = min 17 (r.size + 1); place = r.place; phase = r.phase }

abbrev pub read : Reader → ℕ → Read
read r b = cond (white b) (finish r) (waiting (more r b))
