-- Demand 2, of an item: the codes that it sends, each exactly under the paper's condition.
use Rattle.std.specs.Prelude.{ℕ, ◌≤◌, ◌≡◌, true, List, [], ◌∷◌, ◌++◌}
use Rattle.code.specs.Kinds.{kind_of, dependent, moves, shift}
use Rattle.settings.specs.Options.{endings, limit, onspace, onreturn, filter, ending_codes}
use Rattle.sender.specs.Record.{notes}
use Rattle.sender.specs.Ending.{ending_of, until_zero}
use Rattle.demands.specs.Names.{Case, Letters, Kind, Still, Space, Return, Shift, Char, Settings, Record, Wanted, Sender, Option, Some, None}

-- these codes exactly if the condition holds, and otherwise none
pub record If (condition : Type 0) (codes part : List ℕ) : Type 0 where
  pub holds : condition → part ≡ codes
  pub fails : (condition → ⊥) → part ≡ []

-- One code, with case n on record.

-- the code depends on case, and the recorded case differs from the wanted one or is unknown
abbrev pub NeedsShift : Option Case → Case → Kind → Type 0
NeedsShift n want k = (dependent k ≡ true) × (n ≡ Some want → ⊥)

-- a code of string 90 that depends on case is met with the case unknown
abbrev pub NeedsLetters : Option Case → Kind → Type 0
NeedsLetters n k = (dependent k ≡ true) × (n ≡ None)

-- a space with 70 on, or a return with 71 on
abbrev pub Unshifts : Settings → Kind → Type 0
Unshifts o Still = ⊥
Unshifts o Space = onspace o ≡ true
Unshifts o Return = onreturn o ≡ true
Unshifts o (Shift to) = ⊥
Unshifts o (Char bell) = ⊥

-- the shift, exactly if needed; the code; LTRS, exactly if 70 or 71 asks and the case is not known to be letters
pub record Sends (o : Settings) (n : Option Case) (needed : Type 0) (to : Case) (c : ℕ) (codes : List ℕ) : Type 0 where
  pub before : List ℕ
  pub after : List ℕ
  pub all : codes ≡ before ++ (c ∷ after)
  pub shifted : If needed (shift to ∷ []) before
  pub unshifted : If (Unshifts o (kind_of c) × (n ≡ Some Letters → ⊥)) (shift Letters ∷ []) after

-- One item.

-- option 72 is on, it is a shift, and the item just before it was the same shift
abbrev pub Repeats : Kind → Option Case → Type 0
Repeats Still l = ⊥
Repeats Space l = ⊥
Repeats Return l = ⊥
Repeats (Shift to) None = ⊥
Repeats (Shift to) (Some from) = to ≡ from
Repeats (Char bell) l = ⊥

abbrev pub Dropped : Settings → Sender → Wanted → Type 0
Dropped o s w = (filter o ≡ true) × Repeats (kind_of w.code) s.last

-- option 49 is on, the column is known and not below the limit, and a space or carriage-moving character is asked for
abbrev pub Reached : Settings → Option ℕ → Type 0
Reached o None = ⊥
Reached o (Some n) = limit o ≤ n

abbrev pub EndingDue : Settings → Record → Wanted → Type 0
EndingDue o r w = (endings o ≡ true) × (Reached o r.column × (moves w.case (kind_of w.code) ≡ true))

-- nothing exactly if it is dropped; otherwise string 90 exactly if its condition holds, and then the code, under the case that
-- is on record after the string
pub record ItemSends (o : Settings) (s : Sender) (w : Wanted) (codes : List ℕ) : Type 0 where
  pub string : List ℕ
  pub own : List ℕ
  pub dropped : Dropped o s w → codes ≡ []
  pub sent : (Dropped o s w → ⊥) → codes ≡ string ++ own
  pub ending : If (EndingDue o s.held w) (ending_of o s.held (until_zero (ending_codes o))) string
  pub code : let n = (notes o s.held string).case in Sends o n (NeedsShift n w.case (kind_of w.code)) w.case w.code own
