-- Text with nothing held, and TU codes, on a route to the printer are plain bytes.
-- Assumes nothing.
use Prim.Native.Nat.{ℕ}
use mathlib.Core.Path.{◌≡◌, refl, sym, ap, ◌∙◌}
use mathlib.Core.Bool.{Bool, true, false, false≢true}
use mathlib.Core.List.{List, [], ◌∷◌, append-nil}
use native.Mathlib.Omega.{arith}
use native.Mathlib.Nat.{zero-add, sub-zero}
use lib.Dec.{eqb, leb}
use Rattle.laws.proofs.Filled.{filled_none}
use lib.ListN.{length}
use Rattle.command.specs.declared.Stage.{Stage}
use Rattle.command.specs.declared.Stage.TheVariants as stage
use Rattle.command.specs.Read.{read_at, at, idle}
use Rattle.code.specs.Kinds.{kind_of}
use Rattle.sender.specs.Item.{wanted, wanted_by, wanted_text}
use Rattle.sender.specs.Reading.{read_case}
use Rattle.sender.specs.Run.{asks_next, case_asked, stops_at, Run, most, run_of, SendsRun}
use Rattle.sender.specs.declared.Sent.{Sent}
use Rattle.linebox.specs.Names.{Route, Dropped, ToPrinter, ToHost, ToTu, Settings, Sender, Asks, Text, Codes, Byte, Above, One, State, Stream, Host, Tu}
use Rattle.step.specs.State.{sound, with_reader, with_sender, with_incoming}
use Rattle.step.specs.Step.{sends, text, host_step, tued, carried}
use Rattle.linebox.specs.Call.{taking}
use Rattle.linebox.specs.Plain.{is_text}
use Rattle.step.specs.Route.{route, is_printer}
use Rattle.step.specs.Hear.{listens}
use Rattle.step.proofs.Hearing.{deaf_motor, deaf_told}
use Rattle.sender.proofs.Sending.{run_within, run_none}
use Rattle.linebox.specs.Call.{Runs}
use Rattle.step.proofs.Stays.{sound_parts, parts_sound}
use Rattle.linebox.proofs.Plainly.{Plain, most_fits, plainly}

-- how text asks, and how codes do
abbrev as_text : Asks → Bool
as_text Text = true
as_text (Codes case) = false

abbrev as_codes : Asks → Bool
as_codes Text = false
as_codes (Codes case) = true

keeps_text : (o : Settings) (a : Asks) (b : ℕ) → as_text a ≡ true → as_text (asks_next o a b) ≡ true
keeps_text o Text b h = h
keeps_text o (Codes case) b h = h

keeps_codes : (o : Settings) (a : Asks) (b : ℕ) → as_codes a ≡ true → as_codes (asks_next o a b) ≡ true
keeps_codes o Text b h = h
keeps_codes o (Codes case) b h = h

-- no byte taken
pub unmoved : (t : Stream) (s : State) (input old : List ℕ) → sound s ≡ true → Runs t s input old old (record { state = s; taken = 0; count = 0 })
unmoved t s input old ok = record { new = []; within = omega arith; kept = ok; places = filled_none old; rest = λ room. rw (sub-zero (length old), zero-add) }

-- Text.

open_text : (o : Settings) (k : Route) (bs : List ℕ) → is_printer k ≡ true → text o k bs ≡ wanted_text o bs
open_text o Dropped bs h = absurd (false≢true h)
open_text o ToPrinter bs h = refl
open_text o ToHost bs h = absurd (false≢true h)
open_text o ToTu bs h = absurd (false≢true h)

-- with nothing held, any byte but `/` is text
reads_text : (st : Stage) (values : List ℕ) (b : ℕ) → is_text st ≡ true → eqb b 47 ≡ false → read_at st values b ≡ at stage.Text (One b)
reads_text stage.Text values b h e = rw e
reads_text stage.Swallow values b h e = absurd (false≢true h)
reads_text stage.Held values b h e = absurd (false≢true h)
reads_text stage.Begun values b h e = absurd (false≢true h)
reads_text (stage.Lettered small t) values b h e = absurd (false≢true h)
reads_text (stage.Typed v) values b h e = absurd (false≢true h)
reads_text (stage.Fields v f last) values b h e = absurd (false≢true h)
reads_text stage.Discard values b h e = absurd (false≢true h)

-- the state in a run of text
abbrev pub texting : State → Sender → State
texting s x = with_sender (with_reader s idle) x

texting_sound : (s : State) (x : Sender) → sound s ≡ true → sound (texting s x) ≡ true
texting_sound s x ok =
    let p = sound_parts s ok in
    parts_sound (texting s x) (record { held = p.held; stage = refl; eleven = refl; motor = p.motor })

text_step : (s : State) (b : ℕ) → is_printer (route s.connection Host) ≡ true → is_text s.reader.stage ≡ true → eqb b 47 ≡ false → host_step s b ≡ sends (with_reader s idle) (wanted_by s.settings Text b)
text_step s b m h e = rw (reads_text s.reader.stage s.reader.values b h e, open_text s.settings (route s.connection Host) (b ∷ []) m, append-nil)

plain_text : (s : State) → is_printer (route s.connection Host) ≡ true → listens s.calling s.connection ≡ false → (x : Sender) (a : Asks) (b : ℕ) → as_text a ≡ true → stops_at (Byte 47) b ≡ false → Plain Host s.settings (λ y z. texting s y) x a b
plain_text s m deaf x Text b h e =
    let u = text_step (texting s x) b m refl e in
    let y = texting s x in
    let ws = wanted_by s.settings Text b in
    record { is_taken = refl; state = rw (u, deaf_motor y ws deaf); first = rw u; second = rw u (deaf_told y ws deaf) }
plain_text s m deaf x (Codes case) b h e = absurd (false≢true h)

-- the first byte of a run is read as if no field had ever been
first_same : (s : State) (xs : List ℕ) (room more : ℕ) → is_printer (route s.connection Host) ≡ true → listens s.calling s.connection ≡ false → is_text s.reader.stage ≡ true
    → ((run_of s.settings s.sender Text (Byte 47) xs room).taken ≡ 0 → ⊥) → taking Host s xs room more ≡ taking Host (texting s s.sender) xs room more
first_same s [] room more m deaf h n = absurd (n refl)
first_same s (b ∷ xs) room more m deaf h n = go (eqb b 47) refl (leb most room) refl n
  where
    go : (z : Bool) → eqb b 47 ≡ z → (fit : Bool) → leb most room ≡ fit → ((run_of s.settings s.sender Text (Byte 47) (b ∷ xs) room).taken ≡ 0 → ⊥)
        → taking Host s (b ∷ xs) room more ≡ taking Host (texting s s.sender) (b ∷ xs) room more
    go true e fit f n = absurd (n (rw e))
    go false e false f n = absurd (n (rw (e, f)))
    go false e true f n =
        let p = plain_text s m deaf s.sender Text b refl e in
        let fits = most_fits Host s.settings (λ y z. texting s y) s.sender Text b room more p f in
        let u : host_step s b ≡ host_step (texting s s.sender) b = text_step s b m h e ∙ sym (text_step (texting s s.sender) b m refl e) in
        rw (u, fits)

module _ (s : State) (ok : sound s ≡ true) (m : is_printer (route s.connection Host) ≡ true) (h : is_text s.reader.stage ≡ true) (deaf : listens s.calling s.connection ≡ false) (input old now : List ℕ) (x : Sent)
    (f : SendsRun (run_of s.settings s.sender Text (Byte 47) input (length old)) old now x) where
  abbrev d : Run
  d = run_of s.settings s.sender Text (Byte 47) input (length old)

  -- no byte was sent
  pub text_none : x.taken ≡ 0 → Runs Host s input old now (record { state = s; taken = 0; count = 0 })
  text_none z =
      let none : d.codes ≡ [] = run_none s.settings s.sender Text (Byte 47) input (length old) (sym (ap (λ (u : Sent). u.taken) f.gives) ∙ z) in
      let same : now ≡ old = rw none at f.places.places in
      rw same (unmoved Host s input old ok)

  -- some were
  pub text_runs : (x.taken ≡ 0 → ⊥) → Runs Host s input old now (record { state = texting s x.sender; taken = x.taken; count = x.count })
  text_runs z =
      let n : d.taken ≡ 0 → ⊥ = λ e. z (ap (λ (u : Sent). u.taken) f.gives ∙ e) in
      rw f.gives (record {
        new = d.codes;
        within = run_within s.settings s.sender Text (Byte 47) input (length old);
        kept = texting_sound s d.sender ok;
        places = rw f.gives at f.places;
        rest =
            λ room.
            first_same s input (length old) room m deaf h n
            ∙ plainly Host s.settings (λ y z. texting s y) (Byte 47) as_text (keeps_text s.settings) (plain_text s m deaf) input s.sender Text (length old) room refl;
      })

-- TU codes.

-- the state in a run of codes
abbrev pub coding : State → Sender → Asks → State
coding s x a = with_sender (with_incoming s (case_asked a)) x

open_codes : (k : Route) (s : State) (c : ℕ) → is_printer k ≡ true → tued k s c ≡ carried s c
open_codes Dropped s c h = absurd (false≢true h)
open_codes ToPrinter s c h = refl
open_codes ToHost s c h = absurd (false≢true h)
open_codes ToTu s c h = absurd (false≢true h)

plain_codes : (s : State) → is_printer (route s.connection Tu) ≡ true → listens s.calling s.connection ≡ false → (x : Sender) (a : Asks) (b : ℕ) → as_codes a ≡ true → stops_at (Above 31) b ≡ false → Plain Tu s.settings (coding s) x a b
plain_codes s m deaf x Text b h e = absurd (false≢true h)
plain_codes s m deaf x (Codes case) b h e =
    let u = open_codes (route s.connection Tu) (coding s x (Codes case)) b m in
    let y = with_incoming (coding s x (Codes case)) (read_case s.settings case (kind_of b)) in
    let ws = wanted case b ∷ [] in
    record { is_taken = e; state = rw (u, deaf_motor y ws deaf); first = rw u; second = rw u (deaf_told y ws deaf) }

coding_sound : (s : State) (x : Sender) (a : Asks) → sound s ≡ true → sound (coding s x a) ≡ true
coding_sound s x a ok =
    let p = sound_parts s ok in
    parts_sound (coding s x a) (record { held = p.held; stage = p.stage; eleven = p.eleven; motor = p.motor })

pub codes_run : (s : State) (ok : sound s ≡ true) (m : is_printer (route s.connection Tu) ≡ true) (deaf : listens s.calling s.connection ≡ false) (input old now : List ℕ) (x : Sent)
    → SendsRun (run_of s.settings s.sender (Codes s.incoming) (Above 31) input (length old)) old now x
    → Runs Tu s input old now (record { state = coding s x.sender x.asks; taken = x.taken; count = x.count })
codes_run s ok m deaf input old now x f =
    let d = run_of s.settings s.sender (Codes s.incoming) (Above 31) input (length old) in
    rw f.gives (record {
      new = d.codes;
      within = run_within s.settings s.sender (Codes s.incoming) (Above 31) input (length old);
      kept = coding_sound s d.sender d.asks ok;
      places = rw f.gives at f.places;
      rest = λ room. plainly Tu s.settings (coding s) (Above 31) as_codes (keeps_codes s.settings) (plain_codes s m deaf) input s.sender (Codes s.incoming) (length old) room refl;
    })
