-- Demand 2, reading back: what was sent since a mode 1 connection reads as the text since then, up to any later moment.
use Rattle.std.specs.Prelude.{ℕ, ◌≡◌, true, false, List, [], ◌∷◌, ◌++◌, length, take, drop, replicate}
use Rattle.command.specs.Read.{text_of}
use Rattle.command.specs.Reads.{made}
use Rattle.settings.specs.Options.{endings, reports}
use Rattle.step.specs.Step.{line_step, step, Event, run}
use Rattle.demands.specs.Names.{Settings, Out, State, Stream, Host, Line, Tu}
use Rattle.demands.specs.Box.{Box}
use Rattle.demands.specs.Lent.{lines, in_force, Lent, took_all, sent_all, exchanges}
use Rattle.demands.specs.Asks.{text_bytes}
use Rattle.demands.specs.Writes.{connects}

-- The reader.

-- the box with these settings, all else as it was
abbrev pub under : Settings → State → State
under o s = record { settings = o; connection = s.connection; sender = s.sender; reading = s.reading; incoming = s.incoming; reader = s.reader; calling = s.calling; motor = s.motor }

-- the box's own line-to-host conversion, each code read under the settings that stand beside it
abbrev pub read_back : State → List Settings → List ℕ → List ℕ
read_back s [] cs = []
read_back s (o ∷ os) [] = []
read_back s (o ∷ os) (c ∷ cs) = let x = line_step (under o s) c in x.host ++ read_back x.state os cs

-- Text.

abbrev pub host_byte : Stream → ℕ → List ℕ
host_byte Host b = b ∷ []
host_byte Line c = []
host_byte Tu c = []

abbrev pub host_bytes : List Event → List ℕ
host_bytes [] = []
host_bytes (e ∷ es) = host_byte e.stream e.byte ++ host_bytes es

-- the settings in force for each of these bytes: those before it
abbrev pub host_force : State → List Event → List Settings
host_force s [] = []
host_force s (e ∷ es) = replicate (length (host_byte e.stream e.byte)) s.settings ++ host_force (step e.stream s e.byte).state es

-- text, each under the settings that stand beside it
abbrev pub texts : List Settings → List Out → List ℕ
texts [] xs = []
texts (o ∷ os) [] = []
texts (o ∷ os) (x ∷ xs) = text_bytes o (text_of x) ++ texts os xs

-- what the command reader makes of the host bytes; of it, after option 77's replacement, the convertible text in capitals, without its
-- shift requests
abbrev pub plain_text : State → List Event → List ℕ
plain_text s es = texts (host_force s es) (made s.reader (host_bytes es))

-- Premises.

-- no connection command succeeds, and 49 and 74 are off; 70, 71 and 72 are as they like
pub record Plain (s : State) (e : Event) : Type 0 where
  pub stays : connects s e ≡ false
  pub endings : endings s.settings ≡ false
  pub reports : reports s.settings ≡ false

-- at each moment
abbrev pub AllPlain : State → List Event → Type 0
AllPlain s [] = Unit {0}
AllPlain s (e ∷ es) = Plain s e × AllPlain (step e.stream s e.byte).state es

-- with the byte e a mode 1 connection command succeeds
pub record Joins (s : State) (e : Event) : Type 0 where
  pub connects : connects s e ≡ true
  pub mode1 : (step e.stream s e.byte).state.connection.mode ≡ 1

-- Of a state, the bytes taken from it and the codes sent: where the bytes are some, one that joins, then plain ones and any others,
-- a connection among them too, the codes that the plain ones sent, each with its settings, read back as their text.
abbrev pub ReadsBack : State → List Event → List ℕ → Type 0
ReadsBack start es sent =
    (before : List Event) (e : Event) (after later : List Event) → es ≡ before ++ (e ∷ (after ++ later))
    → let s = run start before in
    let joined = (step e.stream s e.byte).state in
    Joins s e → AllPlain joined after → read_back joined (in_force joined after) (take (length (lines joined after)) (drop (length (lines start before)) sent)) ≡ plain_text joined after

-- Of any box: any calls from any state, however the bytes were cut and whatever the buffers.
abbrev pub ReadingBack : Box → Type 0
ReadingBack box = (start : State) (gs : List Lent) → let ms = exchanges box start gs in ReadsBack start (took_all ms) (sent_all ms)
