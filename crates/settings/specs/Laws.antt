-- What the laws of the settings speak of.
use Rattle.std.specs.Prelude.{ℕ, ◌≤◌, ◌≡◌, true, false, cond, List, length}
use Rattle.message.specs.Message.{framed}
use Rattle.message.specs.Find.{AllBytes, Counted}
use Rattle.settings.specs.Names.{Settings, Calling, Connection, Row, Stored, Outcome}
use Rattle.settings.specs.Table.{is_connection, sound_settings, sound_calling, sound_connection}

-- the numbers that an outcome answers
abbrev pub answer_of : Outcome → List ℕ
answer_of o = o.numbers

-- the id under which what was written is read: 1 gives any connection
abbrev pub read_by : Row → ℕ
read_by r = cond (is_connection r.home) 1 r.number

-- the settings, how a station is called, and the connection are sound
pub record Sound (s : Settings) (k : Calling) (c : Connection) : Type 0 where
  pub settings : sound_settings s ≡ true
  pub connection : sound_connection c ≡ true
  pub calling : sound_calling k ≡ true

-- where nothing is forgotten, neither the connection nor how a station is called was written
abbrev pub Lasts : Calling → Connection → Stored → Type 0
Lasts k c t = t.forgets ≡ false → (t.connected ≡ false) × (t.calling ≡ k) × (t.connection ≡ c)

-- the numbers of a message: bytes, the second counting the rest, at most ten of them, and at most 37 bytes as a message
pub record Sendable (ns : List ℕ) : Type 0 where
  pub bytes : AllBytes ns
  pub counted : Counted ns
  pub few : length ns ≤ 10
  pub short : length (framed ns) ≤ 37

-- at most ten numbers, and at most 37 bytes as a message
pub record Short (o : Outcome) : Type 0 where
  pub few : length (answer_of o) ≤ 10
  pub short : length (framed (answer_of o)) ≤ 37
