-- Bytes that go out as codes, written straight into a buffer.
use Rattle.std.specs.Prelude.{ℕ, suc, ◌-◌, ◌≡◌, Bool, false, cond, List, [], ◌∷◌, ◌++◌, eqb, leb, ltb, length}
use Rattle.laws.specs.Written.{Filled}
use Rattle.code.specs.Kinds.{kind_of}
use Rattle.sender.specs.Names.{Case, Letters, Settings, Record, Wanted, Sender, Asks, Text, Codes, Until, Never, Byte, Above, Noted, Sent}
use Rattle.sender.specs.Record.{notes}
use Rattle.sender.specs.Reading.{read_case}
use Rattle.sender.specs.Item.{items, after_items, wanted_by}

-- codes at the front of a buffer, each noted in the record
pub record Notes (o : Settings) (start : Record) (codes old now : List ℕ) (r : Noted Record) : Type 0 where
  pub held : r.held ≡ notes o start codes
  pub places : Filled old now codes r.count

-- items at the front of a buffer
pub record PutsItems (o : Settings) (s : Sender) (ws : List Wanted) (old now : List ℕ) (r : Noted Sender) : Type 0 where
  pub sender : r.held ≡ after_items o s ws
  pub places : Filled old now (items o s ws) r.count

-- how the next byte asks
abbrev pub asks_next : Settings → Asks → ℕ → Asks
asks_next o Text b = Text
asks_next o (Codes case) c = Codes (read_case o case (kind_of c))

-- the incoming reading case that the next code asks in
abbrev pub case_asked : Asks → Case
case_asked Text = Letters
case_asked (Codes case) = case

-- whether a run stops before this byte
abbrev pub stops_at : Until → ℕ → Bool
stops_at Never b = false
stops_at (Byte x) b = eqb b x
stops_at (Above x) b = ltb x b

-- bytes that went out: the sender after them and how the next ones ask, how many they are, and their codes
pub record Run : Type 0 where
  pub sender : Sender
  pub asks : Asks
  pub taken : ℕ
  pub codes : List ℕ

-- no byte
abbrev pub no_run : Sender → Asks → Run
no_run s asks = record { sender = s; asks = asks; taken = 0; codes = [] }

-- one byte's codes, and then the others
abbrev pub run_on : List ℕ → Run → Run
run_on cs d = record { sender = d.sender; asks = d.asks; taken = suc d.taken; codes = cs ++ d.codes }

-- the most codes that a byte can be: two for each of string 90's eight, and two for its own
abbrev pub most : ℕ
most = 18

-- the bytes one after the other, as long as any byte's codes have room, and up to one that stops them
abbrev pub run_of : Settings → Sender → Asks → Until → List ℕ → ℕ → Run
run_of o s asks until [] room = no_run s asks
run_of o s asks until (b ∷ bs) room =
    let ws = wanted_by o asks b in
    cond (stops_at until b) (no_run s asks)
    (cond (leb most room) (run_on (items o s ws) (run_of o (after_items o s ws) (asks_next o asks b) until bs (room - length (items o s ws)))) (no_run s asks))

-- what the caller is told of it, and the buffer
pub record SendsRun (d : Run) (old now : List ℕ) (r : Sent) : Type 0 where
  pub gives : r ≡ record { sender = d.sender; asks = d.asks; taken = d.taken; count = length d.codes }
  pub places : Filled old now d.codes r.count
