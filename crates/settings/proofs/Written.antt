-- What is written is what was given, and is read back; sound settings, calling and connection stay sound.
-- Assumes nothing.
use Prim.Native.Nat.{ℕ, ◌<◌}
use mathlib.Core.Path.{◌≡◌, refl, ap, sym, subst, ◌∙◌}
use mathlib.Core.Bool.{Bool, true, false, ◌&&◌, not, false≢true, true≢false}
use mathlib.Core.List.{List, [], ◌∷◌}
use native.Mathlib.Omega.{arith}
use borrow.Author.Tests.{ltb-true, eqb-true}
use lib.Dec.{eqb, leb, ltb}
use lib.ListN.{length, get_or, take, drop, length-drop, length-set}
use lib.Seq.{length-take-le}
use Rattle.std.proofs.lemmas.Bool.{and_parts}
use Rattle.word.specs.Word.{unpacked, packed, is_word}
use Rattle.word.proofs.Words.{codes_packed, below}
use Rattle.settings.specs.Names.{Verb, Write, Read, Other, Settings, Calling, Connection, Home, Version, Linked, Unlinked, Value, String, Power, Signal, Factory, Nowhere, Row, Fault, Stored}
use Rattle.std.specs.Prelude.{Option, Some, Result, Ok, Err}
use Rattle.settings.specs.Table.{between, in_range, all_codes, padded, opens, options, row, is_connection, width, takes_if, taken_by, factory, factory_calling, is_power, sound_string, sound_signal, sound_stand_in, sound_settings, is_signal, sound_calling, sound_link, sound_connection}
use Rattle.settings.specs.Command.{fault_of, together, kept, joined, recalled, link, with_value, with_string, with_power, with_signal, store, obey, values_at, numbers_at, reading, answered, wrong, commanded}
use Rattle.settings.specs.Laws.{Lasts, answer_of, read_by, Sound}
use Rattle.settings.proofs.Accept.{Accepted, accepted, judged, success}
use Rattle.settings.proofs.Rows.{low_at, high_at, fits_home, found, row_fits}
use Rattle.settings.proofs.Held.{set_in, set_get, values_in, string_in, set_signals, power_in, five_strings, signals_in}
use Rattle.settings.proofs.Strings.{signal_word}

-- Rows that a command takes.

-- it can be done, and takes so many
takes_can : (can : Bool) (w n : ℕ) → takes_if can w ≡ Some n → (can ≡ true) × (w ≡ n)
takes_can true w n e = (refl, cc)
takes_can false w n e = let z : ◌≡◌ {A = ℕ} 0 1 = cc in absurd (omega arith)

-- an id that a command takes is in the table
pub defined : (v : Verb) (id n : ℕ) → taken_by v (row id) ≡ Some n → (row id).home ≡ Nowhere → ⊥
defined v id n e w = go v e
  where
    neither : (not (row id).written && not (row id).read) ≡ true
    neither = subst (λ (h : Home). fits_home h (row id).written (row id).read ≡ true) w (row_fits id)

    off : (b : Bool) → b ≡ true → not b ≡ true → ⊥
    off true e f = false≢true f
    off false e f = false≢true e

    go : (v : Verb) → taken_by v (row id) ≡ Some n → ⊥
    go Write e = off (row id).written (takes_can (row id).written (width (row id).home) n e).0 (and_parts (not (row id).written) (not (row id).read) neither).0
    go Read e = off (row id).read (takes_can (row id).read 0 n e).0 (and_parts (not (row id).written) (not (row id).read) neither).1
    go Other e = let z : ◌≡◌ {A = ℕ} 0 1 = cc in omega arith

-- Values as stored are those given.

one : (ps : List ℕ) → length ps ≡ 9 → take 1 ps ≡ get_or ps 0 0 ∷ []
one [] e = absurd (omega (arith, e))
one (a ∷ ps) e = refl

two : (ps : List ℕ) → length ps ≡ 9 → take 2 ps ≡ get_or ps 0 0 ∷ get_or ps 1 0 ∷ []
two [] e = absurd (omega (arith, e))
two (a ∷ []) e = absurd (omega (arith, e))
two (a ∷ b ∷ ps) e = refl

-- eight parameters that are codes, packed and taken apart, are themselves; and they make a word
eight : (ps : List ℕ) → length ps ≡ 9 → length (take 8 ps) ≡ 8
eight ps nine = length-take-le 8 ps (omega (arith, nine))

module _ (ps : List ℕ) (nine : length ps ≡ 9) (rules : sound_string (take 8 ps) ≡ true) where
  string_codes : all_codes (take 8 ps) ≡ true
  unfolding sound_string
  string_codes = (and_parts (all_codes (take 8 ps)) (padded (take 8 ps) && opens (take 8 ps)) rules).0

  pub string_back : unpacked (packed (take 8 ps)) ≡ take 8 ps
  string_back = codes_packed (take 8 ps) (eight ps nine) string_codes

  string_fits : is_word (packed (take 8 ps)) ≡ true
  string_fits = below (take 8 ps) (eight ps nine) string_codes

module _ (ps : List ℕ) (nine : length ps ≡ 9) (rules : sound_signal (take 8 ps) ≡ true) where
  signal_codes : all_codes (take 8 ps) ≡ true
  unfolding sound_signal
  signal_codes = (and_parts (all_codes (take 8 ps)) (padded (take 8 ps)) rules).0

  pub signal_back : unpacked (packed (take 8 ps)) ≡ take 8 ps
  signal_back = codes_packed (take 8 ps) (eight ps nine) signal_codes

  signal_fits : is_signal (packed (take 8 ps)) ≡ true
  signal_fits = signal_word (take 8 ps) (eight ps nine) signal_codes ∙ rules

-- the place of an option is one of the settings'
place_in : (i low high : ℕ) (w r : Bool) → fits_home (Value i low high) w r ≡ true → i < length options
place_in i low high w r f =
    let b = (and_parts r _ f).1 in
    ltb-true i (length options) (and_parts (ltb i (length options)) (leb high 255) (and_parts (ltb i (length options) && leb high 255) _ b).0).0

module _ (s : Settings) (k : Calling) (c : Connection) (ps : List ℕ) (nine : length ps ≡ 9) (all : length s.values ≡ length options) (five : length k.strings ≡ 5) where
  stored_values : (h : Home) (n : ℕ) (w r : Bool) → fits_home h w r ≡ true → w ≡ true → in_range h ps ≡ true → values_at (store s k c h n ps).settings (store s k c h n ps).calling (store s k c h n ps).connection h ≡ take (width h) ps
  stored_values Version n w r f e i = absurd (false≢true (rw e at f))
  stored_values (Linked last) n w r f e i = sym (two ps nine)
  stored_values Unlinked n w r f e i = refl
  stored_values (Value p low high) n w r f e i = rw (one ps nine, set_get s.values p (get_or ps 0 0) (rw all (place_in p low high w r f)))
  stored_values String n w r f e i = string_back ps nine i
  stored_values Power n w r f e i = sym (one ps nine)
  stored_values (Signal p) n w r f e i = rw (set_get k.strings p (packed (take 8 ps)) (rw five (ltb-true p 5 (and_parts r (ltb p 5) f).1))) (signal_back ps nine i)
  stored_values Factory n w r f e i = refl
  stored_values Nowhere n w r f e i = absurd (false≢true (rw e at f))

-- a write answers under its own id
own : (s : Settings) (k : Calling) (c : Connection) (h : Home) (r : Row) (ps : List ℕ) → row r.number ≡ r → r.home ≡ h → reading (store s k c h r.number ps) r ≡ numbers_at (store s k c h r.number ps).settings (store s k c h r.number ps).calling (store s k c h r.number ps).connection r
own s k c Version r ps e g = rw g
own s k c (Linked last) r ps e g = rw (g, e, g)
own s k c Unlinked r ps e g = rw (g, e, g)
own s k c (Value i low high) r ps e g = rw g
own s k c String r ps e g = rw g
own s k c Power r ps e g = rw g
own s k c (Signal i) r ps e g = rw g
own s k c Factory r ps e g = rw g
own s k c Nowhere r ps e g = rw g

values_long : (n : ℕ) (ps : List ℕ) (h : Home) → length ps ≡ 9 → length (take (width h) ps) ≡ width h
values_long n ps Version l = length-take-le 4 ps (omega (arith, l))
values_long n ps (Linked last) l = length-take-le 2 ps (omega (arith, l))
values_long n ps Unlinked l = refl
values_long n ps (Value i low high) l = length-take-le 1 ps (omega (arith, l))
values_long n ps String l = eight ps l
values_long n ps Power l = length-take-le 1 ps (omega (arith, l))
values_long n ps (Signal i) l = eight ps l
values_long n ps Factory l = refl
values_long n ps Nowhere l = refl

module _ (s : Settings) (k : Calling) (c : Connection) (count : ℕ) (fields : List ℕ) (eleven : length fields ≡ 11) (all : length s.values ≡ length options) (five : length k.strings ≡ 5) (ok : wrong s k c Write count fields ≡ Ok tt) where
  -- a write answers the id, the number of parameters and the parameters, as they were given
  pub written : answer_of (commanded s k c Write count fields) ≡ get_or fields 0 0 ∷ get_or fields 1 0 ∷ take (get_or fields 1 0) (drop 2 fields)
  written =
      let id = get_or fields 0 0 in
      let r = row id in
      let a = accepted Write r count fields (judged _ (together Write (obey s k c Write r (drop 2 fields)).settings) ok).0 in
      let t = takes_can r.written (width r.home) a.n a.takes in
      let l : length (drop 2 fields) ≡ 9 = rw (length-drop, eleven) in
      let f = found id (defined Write id a.n a.takes) in
      let v = stored_values s k c (drop 2 fields) l all five r.home r.number r.written r.read (row_fits id) t.0 a.inside in
      rw (success s k c Write count fields ok, own s k c r.home r (drop 2 fields) (ap row f) refl, v, values_long 0 (drop 2 fields) r.home l, f, a.number, ← t.1)

-- 1 reads the connection
first : ((row 1).read ≡ true) × (is_connection (row 1).home ≡ true)
unfolding row
first = (refl, refl)

-- what was written is read back under its id, or under 1 where it is a connection
read_by_law : (t : Stored) (h : Home) (r : Row) → row r.number ≡ r → r.home ≡ h → reading (kept t.settings t.calling t.connection) (row (read_by r)) ≡ reading t r
read_by_law t Version r e g = rw (g, e, g)
read_by_law t (Linked last) r e g = rw (g, first.1)
read_by_law t Unlinked r e g = rw (g, first.1)
read_by_law t (Value i low high) r e g = rw (g, e, g)
read_by_law t String r e g = rw (g, e, g)
read_by_law t Power r e g = rw (g, e, g)
read_by_law t (Signal i) r e g = rw (g, e, g)
read_by_law t Factory r e g = rw (g, e, g)
read_by_law t Nowhere r e g = rw (g, e, g)

-- a read that follows a write answers the same numbers
pub read_back : (s : Settings) (k : Calling) (c : Connection) (count : ℕ) (fields : List ℕ) (count' : ℕ) (fields' : List ℕ) → wrong s k c Write count fields ≡ Ok tt → wrong s k c Read count' fields' ≡ Ok tt → get_or fields' 0 0 ≡ read_by (row (get_or fields 0 0)) → answer_of (commanded (commanded s k c Write count fields).stored.settings (commanded s k c Write count fields).stored.calling (commanded s k c Write count fields).stored.connection Read count' fields') ≡ answer_of (commanded s k c Write count fields)
read_back s k c count fields count' fields' ok ok' e =
    let id = get_or fields 0 0 in
    let r = row id in
    let a = accepted Write r count fields (judged _ (together Write (obey s k c Write r (drop 2 fields)).settings) ok).0 in
    let f = found id (defined Write id a.n a.takes) in
    let t = store s k c r.home r.number (drop 2 fields) in
    rw (success s k c Write count fields ok, success t.settings t.calling t.connection Read count' fields' ok', e, read_by_law t r.home r (ap row f) refl)

-- and whatever can be written, 250 aside, can be read
pub readable : (id : ℕ) → (row id).written ≡ true → ((row id).home ≡ Factory → ⊥) → (row (read_by (row id))).read ≡ true
readable id w h = go (row id).home refl
  where
    fits : (g : Home) → (row id).home ≡ g → fits_home g true (row id).read ≡ true
    fits g e = rw (e, w) at (row_fits id)

    itself : ((row id).home ≡ Nowhere → ⊥) → row (row id).number ≡ row id
    itself d = ap row (found id d)

    go : (g : Home) → (row id).home ≡ g → (row (read_by (row id))).read ≡ true
    go Version e = absurd (false≢true (fits Version e))
    go (Linked last) e = rw e first.0
    go Unlinked e = rw e first.0
    go (Value i low high) e = rw (e, itself (λ z. absurd (omega (arith, ap width (sym e ∙ z))))) (and_parts (row id).read _ (fits (Value i low high) e)).0
    go String e = rw (e, itself (λ z. absurd (omega (arith, ap width (sym e ∙ z))))) (fits String e)
    go Power e = rw (e, itself (λ z. absurd (omega (arith, ap width (sym e ∙ z))))) (fits Power e)
    go (Signal i) e = rw (e, itself (λ z. absurd (omega (arith, ap width (sym e ∙ z))))) (and_parts (row id).read (ltb i 5) (fits (Signal i) e)).0
    go Factory e = absurd (h e)
    go Nowhere e = absurd (false≢true (fits Nowhere e))

-- by its id and 0
pub read_passes : (s : Settings) (k : Calling) (c : Connection) (fields : List ℕ) → (row (get_or fields 0 0)).read ≡ true → get_or fields 1 0 ≡ 0 → wrong s k c Read 2 fields ≡ Ok tt
read_passes s k c fields t n = rw (t, n)

-- 250 gives the factory settings and the factory's calling, turns the motor off, and keeps the connection
pub reset : (s : Settings) (k : Calling) (c : Connection) (count : ℕ) (fields : List ℕ) → wrong s k c Write count fields ≡ Ok tt → get_or fields 0 0 ≡ 250 → (commanded s k c Write count fields).stored ≡ recalled factory factory_calling c
unfolding row
reset s k c count fields ok e = rw (success s k c Write count fields ok, e)

-- Sound settings, calling and connection stay sound.

-- the factory settings are
pub factory_sound : sound_settings factory ≡ true
unfolding sound_settings sound_stand_in sound_string
factory_sound = refl

pub factory_calling_sound : sound_calling factory_calling ≡ true
unfolding sound_calling is_signal
factory_calling_sound = refl

module _ (s : Settings) (k : Calling) (c : Connection) (h : Sound s k c) where
  -- a value in range
  set_sound : (i low high n : ℕ) (w r : Bool) → fits_home (Value i low high) w r ≡ true → between low high n ≡ true → sound_stand_in (with_value s i n) ≡ true → sound_settings (with_value s i n) ≡ true
  unfolding sound_settings
  set_sound i low high n w r f b d =
      let at = and_parts (eqb low (low_at options i)) (eqb high (high_at options i)) (and_parts (ltb i (length options) && leb high 255) _ (and_parts r _ f).1).1 in
      let p : between (low_at options i) (high_at options i) n ≡ true = rw (← eqb-true low (low_at options i) at.0, ← eqb-true high (high_at options i) at.1) b in
      rw (set_in options s.values i n (values_in s h.settings) p, d, string_in s h.settings)

  string_sound : (ps : List ℕ) → length ps ≡ 9 → sound_string (take 8 ps) ≡ true → sound_stand_in (with_string s (packed (take 8 ps))) ≡ true → sound_settings (with_string s (packed (take 8 ps))) ≡ true
  unfolding sound_settings
  string_sound ps l r d = rw (values_in s h.settings, d, string_fits ps l r, string_back ps l r, r)

  power_sound : (n : ℕ) → is_power n ≡ true → sound_calling (with_power k n) ≡ true
  unfolding sound_calling
  power_sound n r = rw (r, five_strings k h.calling, signals_in k h.calling)

  signal_sound : (i : ℕ) (ps : List ℕ) → length ps ≡ 9 → sound_signal (take 8 ps) ≡ true → sound_calling (with_signal k i (packed (take 8 ps))) ≡ true
  unfolding sound_calling
  signal_sound i ps l r =
      rw (power_in k h.calling, length-set k.strings i (packed (take 8 ps)), five_strings k h.calling, set_signals k.strings i (packed (take 8 ps)) (signals_in k h.calling) (signal_fits ps l r))

  link_sound : (r : Row) (g : Home) (ps : List ℕ) → row r.number ≡ r → r.home ≡ g → sound_link g (store s k c g r.number ps).connection.port (store s k c g r.number ps).connection.speed ≡ true → (store s k c g r.number ps).connection.mode ≡ r.number → sound_connection (store s k c g r.number ps).connection ≡ true
  unfolding sound_connection
  link_sound r g ps e f p q = rw (q, e, f) p

  store_sound : (r : Row) (g : Home) (ps : List ℕ) → row r.number ≡ r → r.home ≡ g → fits_home g r.written r.read ≡ true → length ps ≡ 9 → in_range g ps ≡ true → sound_stand_in (store s k c g r.number ps).settings ≡ true → Sound (store s k c g r.number ps).settings (store s k c g r.number ps).calling (store s k c g r.number ps).connection
  store_sound r Version ps e f t l i d = h
  store_sound r (Linked last) ps e f t l i d = record { settings = h.settings; connection = link_sound r (Linked last) ps e f i refl; calling = h.calling }
  store_sound r Unlinked ps e f t l i d = record { settings = h.settings; connection = link_sound r Unlinked ps e f refl refl; calling = h.calling }
  store_sound r (Value p low high) ps e f t l i d = record { settings = set_sound p low high (get_or ps 0 0) r.written r.read t i d; connection = h.connection; calling = h.calling }
  store_sound r String ps e f t l i d = record { settings = string_sound ps l i d; connection = h.connection; calling = h.calling }
  store_sound r Power ps e f t l i d = record { settings = h.settings; connection = h.connection; calling = power_sound (get_or ps 0 0) i }
  store_sound r (Signal p) ps e f t l i d = record { settings = h.settings; connection = h.connection; calling = signal_sound p ps l i }
  store_sound r Factory ps e f t l i d = record { settings = factory_sound; connection = h.connection; calling = factory_calling_sound }
  store_sound r Nowhere ps e f t l i d = h

  -- what a command without error leaves
  pub obey_sound : (v : Verb) (t : Option ℕ) (id : ℕ) (fields : List ℕ) → length fields ≡ 11 → ((row id).home ≡ Nowhere → ⊥) → Accepted t v (row id) fields → together v (obey s k c v (row id) (drop 2 fields)).settings ≡ true
      → Sound (obey s k c v (row id) (drop 2 fields)).settings (obey s k c v (row id) (drop 2 fields)).calling (obey s k c v (row id) (drop 2 fields)).connection
  obey_sound Write t id fields l d a i = store_sound (row id) (row id).home (drop 2 fields) (ap row (found id d)) refl (row_fits id) (rw (length-drop, l)) a.inside i
  obey_sound Read t id fields l d a i = h
  obey_sound Other t id fields l d a i = h

  -- under any command
  pub stays : (v : Verb) (count : ℕ) (fields : List ℕ) → length fields ≡ 11 → Sound (commanded s k c v count fields).stored.settings (commanded s k c v count fields).stored.calling (commanded s k c v count fields).stored.connection
  unfolding commanded
  stays v count fields l = go (wrong s k c v count fields) refl
    where
      go : (f : Result (Unit {0}) Fault) → wrong s k c v count fields ≡ f → Sound (answered f s k c v (row (get_or fields 0 0)) fields).stored.settings (answered f s k c v (row (get_or fields 0 0)) fields).stored.calling (answered f s k c v (row (get_or fields 0 0)) fields).stored.connection
      go (Ok u) e =
          let i = get_or fields 0 0 in
          let j = judged (fault_of v (row i) count fields) (together v (obey s k c v (row i) (drop 2 fields)).settings) e in
          let a = accepted v (row i) count fields j.0 in
          obey_sound v _ i fields l (defined v i a.n a.takes) a j.1
      go (Err f) e = h

-- What does not write a connection keeps it; what forgets nothing keeps how a station is called too.

abbrev pub Keeps : Connection → Stored → Type 0
Keeps c t = t.connected ≡ false → t.connection ≡ c

module _ (s : Settings) (k : Calling) (c : Connection) where
  -- what any write does is one of three
  store_by : (P : Stored → Type 0) → ((s' : Settings) → P (kept s' k c)) → ((c' : Connection) → P (joined s k c')) → ((s' : Settings) (k' : Calling) → P (recalled s' k' c)) → (h : Home) (n : ℕ) (ps : List ℕ) → P (store s k c h n ps)
  store_by P a b d Version n ps = a s
  store_by P a b d (Linked last) n ps = b (link n (get_or ps 0 0) (get_or ps 1 0))
  store_by P a b d Unlinked n ps = b (link n 0 0)
  store_by P a b d (Value i low high) n ps = a (with_value s i (get_or ps 0 0))
  store_by P a b d String n ps = a (with_string s (packed (take 8 ps)))
  store_by P a b d Power n ps = d s (with_power k (get_or ps 0 0))
  store_by P a b d (Signal i) n ps = d s (with_signal k i (packed (take 8 ps)))
  store_by P a b d Factory n ps = d factory factory_calling
  store_by P a b d Nowhere n ps = a s

  -- and so is what any command does
  commanded_by : (P : Stored → Type 0) → ((s' : Settings) → P (kept s' k c)) → ((c' : Connection) → P (joined s k c')) → ((s' : Settings) (k' : Calling) → P (recalled s' k' c)) → (v : Verb) (count : ℕ) (fields : List ℕ) → P (commanded s k c v count fields).stored
  unfolding commanded
  commanded_by P a b d v count fields = go (wrong s k c v count fields)
    where
      obeyed : (v : Verb) → P (obey s k c v (row (get_or fields 0 0)) (drop 2 fields))
      obeyed Write = store_by P a b d (row (get_or fields 0 0)).home (row (get_or fields 0 0)).number (drop 2 fields)
      obeyed Read = a s
      obeyed Other = a s

      go : (f : Result (Unit {0}) Fault) → P (answered f s k c v (row (get_or fields 0 0)) fields).stored
      go (Ok u) = obeyed v
      go (Err f) = a s

  -- no other command touches the connection
  pub commanded_keeps : (v : Verb) (count : ℕ) (fields : List ℕ) → Keeps c (commanded s k c v count fields).stored
  commanded_keeps = commanded_by (Keeps c) (λ s' e. refl) (λ c' e. absurd (true≢false e)) (λ s' k' e. refl)

  -- where nothing is forgotten, how a station is called and the connection stay
  pub commanded_lasts : (v : Verb) (count : ℕ) (fields : List ℕ) → Lasts k c (commanded s k c v count fields).stored
  commanded_lasts = commanded_by (Lasts k c) (λ s' e. (refl, refl, refl)) (λ c' e. absurd (true≢false e)) (λ s' k' e. absurd (true≢false e))
