-- What a finished command does and answers: its fields are the id, the number of parameters, the parameters and, if one more
-- stands there, a checksum.
use Rattle.std.specs.Prelude.{ℕ, ◌+◌, ◌%◌, Bool, true, false, cond, ◌&&◌, ◌||◌, List, [], ◌∷◌, eqb, length, get_or, take, drop, set, Option, Some, None, Result, Ok, Err}
use Rattle.word.specs.Word.{unpacked, packed}
use Rattle.settings.specs.Names.{Verb, Write, Read, Other, Settings, Calling, Connection, Home, Version, Linked, Unlinked, Value, String, Power, Signal, Factory, Nowhere, Row, Fault, Stored, Outcome}
use Rattle.settings.specs.Names.fault
use Rattle.settings.specs.Table.{in_range, row, is_connection, taken_by, factory, factory_calling, sound_stand_in}

-- The first error that applies.

-- all of them added
abbrev pub sum : List ℕ → ℕ
sum [] = 0
sum (n ∷ ns) = n + sum ns

-- the sum of all fields before it, modulo 256; of `count` fields, n are parameters
abbrev pub checked : ℕ → ℕ → List ℕ → Bool
checked n count fields = eqb count (n + 2) || eqb (sum (take (n + 2) fields) % 256) (get_or fields (n + 2) 0)

-- the number field is the id's count, and the parameters are that many or one more
abbrev pub fitting : ℕ → ℕ → List ℕ → Bool
fitting n count fields = eqb (get_or fields 1 0) n && (eqb count (n + 2) || eqb count (n + 3))

-- a read has no value to be out of range
abbrev pub ranged : Verb → Row → List ℕ → Bool
ranged Write r fields = in_range r.home (drop 2 fields)
ranged Read r fields = true
ranged Other r fields = true

-- of a command whose id takes so many parameters: those first, then the checksum, then the range
abbrev pub fault_in : Option ℕ → Verb → Row → ℕ → List ℕ → Result (Unit {0}) Fault
fault_in None v r count fields = Err fault.Id
fault_in (Some n) v r count fields =
    cond (fitting n count fields)
    (cond (checked n count fields) (cond (ranged v r fields) (Ok tt) (Err fault.Range)) (Err fault.Checksum))
    (Err fault.Parameters)

-- type first, then id
abbrev pub fault_of : Verb → Row → ℕ → List ℕ → Result (Unit {0}) Fault
fault_of Other r count fields = Err fault.Type
fault_of Write r count fields = fault_in (taken_by Write r) Write r count fields
fault_of Read r count fields = fault_in (taken_by Read r) Read r count fields

-- the settings that a write would store have a sound stand-in; a read stores nothing
abbrev pub together : Verb → Settings → Bool
together Write next = sound_stand_in next
together Read next = true
together Other next = true

-- where nothing else is wrong, a value is out of range that does not go together with the settings
abbrev pub jointly : Result (Unit {0}) Fault → Bool → Result (Unit {0}) Fault
jointly (Ok _) ok = cond ok (Ok tt) (Err fault.Range)
jointly (Err f) ok = Err f

-- the numbers of the errors
abbrev pub number_of : Fault → ℕ
number_of fault.Type = 1
number_of fault.Id = 2
number_of fault.Parameters = 3
number_of fault.Checksum = 4
number_of fault.Range = 5

-- What a write stores.

-- no connection is written, and what was heard stays
abbrev pub kept : Settings → Calling → Connection → Stored
kept s k c = record { settings = s; connection = c; connected = false; calling = k; forgets = false }

-- a connection is written, and the motor goes off
abbrev pub joined : Settings → Calling → Connection → Stored
joined s k c = record { settings = s; connection = c; connected = true; calling = k; forgets = true }

-- how a station is called is written, and the motor goes off
abbrev pub recalled : Settings → Calling → Connection → Stored
recalled s k c = record { settings = s; connection = c; connected = false; calling = k; forgets = true }

-- one option changed
abbrev pub with_value : Settings → ℕ → ℕ → Settings
with_value s place x = record { values = set s.values place x; string = s.string }

-- string 90 changed
abbrev pub with_string : Settings → ℕ → Settings
with_string s x = record { values = s.values; string = x }

-- the motor power mode changed
abbrev pub with_power : Calling → ℕ → Calling
with_power k x = record { strings = k.strings; power = x }

-- one string of 91 to 95 changed
abbrev pub with_signal : Calling → ℕ → ℕ → Calling
with_signal k place x = record { strings = set k.strings place x; power = k.power }

-- a connection
abbrev pub link : ℕ → ℕ → ℕ → Connection
link mode port speed = record { mode = mode; port = port; speed = speed }

-- the values of an id of this number go where it has its home: a connection, a setting, how a station is called, or settings and calling to
-- factory
abbrev pub store : Settings → Calling → Connection → Home → ℕ → List ℕ → Stored
store s k c Version n ps = kept s k c
store s k c (Linked last) n ps = joined s k (link n (get_or ps 0 0) (get_or ps 1 0))
store s k c Unlinked n ps = joined s k (link n 0 0)
store s k c (Value place low high) n ps = kept (with_value s place (get_or ps 0 0)) k c
store s k c String n ps = kept (with_string s (packed (take 8 ps))) k c
store s k c Power n ps = recalled s (with_power k (get_or ps 0 0)) c
store s k c (Signal place) n ps = recalled s (with_signal k place (packed (take 8 ps))) c
store s k c Factory n ps = recalled factory factory_calling c
store s k c Nowhere n ps = kept s k c

-- only a write stores
abbrev pub obey : Settings → Calling → Connection → Verb → Row → List ℕ → Stored
obey s k c Write r ps = store s k c r.home r.number ps
obey s k c Read r ps = kept s k c
obey s k c Other r ps = kept s k c

-- The answer: id, count, values as stored.

-- the values of an id
abbrev pub values_at : Settings → Calling → Connection → Home → List ℕ
values_at s k c Version = 0 ∷ 0 ∷ 1 ∷ 0 ∷ []
values_at s k c (Linked last) = c.port ∷ c.speed ∷ []
values_at s k c Unlinked = []
values_at s k c (Value place low high) = get_or s.values place 0 ∷ []
values_at s k c String = unpacked s.string
values_at s k c Power = k.power ∷ []
values_at s k c (Signal place) = unpacked (get_or k.strings place 0)
values_at s k c Factory = []
values_at s k c Nowhere = []

-- the connection answers under its mode's own id
abbrev pub answering : Connection → Row → Row
answering c r = cond (is_connection r.home) (row c.mode) r

-- the id, how many values it has, and the values
abbrev pub numbers_at : Settings → Calling → Connection → Row → List ℕ
numbers_at s k c r = r.number ∷ length (values_at s k c r.home) ∷ values_at s k c r.home

-- what a command answers once it is obeyed
abbrev pub reading : Stored → Row → List ℕ
reading t r = numbers_at t.settings t.calling t.connection (answering t.connection r)

-- The whole command.

-- what is stored, and an answer
abbrev pub outcome : Stored → List ℕ → Outcome
outcome t ns = record { stored = t; numbers = ns }

-- without error
abbrev pub succeeded : Settings → Calling → Connection → Verb → Row → List ℕ → Outcome
succeeded s k c v r fields = outcome (obey s k c v r (drop 2 fields)) (reading (obey s k c v r (drop 2 fields)) r)

-- an error changes nothing, and answers 255,2,id,n
abbrev pub refused : Settings → Calling → Connection → ℕ → Fault → Outcome
refused s k c id f = outcome (kept s k c) (255 ∷ 2 ∷ id ∷ number_of f ∷ [])

-- by what is wrong
abbrev pub answered : Result (Unit {0}) Fault → Settings → Calling → Connection → Verb → Row → List ℕ → Outcome
answered (Ok _) s k c v r fields = succeeded s k c v r fields
answered (Err f) s k c v r fields = refused s k c (get_or fields 0 0) f

-- what is wrong with a command of `count` fields, of which the first is the id
abbrev pub wrong : Settings → Calling → Connection → Verb → ℕ → List ℕ → Result (Unit {0}) Fault
wrong s k c v count fields = let r = row (get_or fields 0 0) in jointly (fault_of v r count fields) (together v (obey s k c v r (drop 2 fields)).settings)

-- a finished command
unfoldable pub commanded : Settings → Calling → Connection → Verb → ℕ → List ℕ → Outcome
commanded s k c v count fields = answered (wrong s k c v count fields) s k c v (row (get_or fields 0 0)) fields
