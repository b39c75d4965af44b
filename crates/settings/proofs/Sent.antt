-- What a command answers can be sent: its numbers are those of a message, of at most 37 bytes.
-- Assumes nothing.
use Prim.Native.Nat.{ℕ, ◌*◌, ◌≤◌}
use mathlib.Core.Path.{◌≡◌, refl, sym, ◌∙◌}
use mathlib.Core.Bool.{Bool, true, false, cond, ◌&&◌, ◌||◌, false≢true}
use mathlib.Core.List.{List, [], ◌∷◌}
use native.Mathlib.Nat.{le_trans}
use native.Mathlib.Omega.{arith}
use borrow.Author.Tests.{leb-true, ltb-true, eqb-true}
use lib.Dec.{eqb, leb, ltb, lit≤}
use lib.ListN.{length, get_or, drop, length-append}
use Rattle.word.specs.Word.{unpacked}
use Rattle.word.proofs.Words.{digits_length, digits_below}
use Rattle.message.specs.Message.{digits, numbers, framed}
use Rattle.message.specs.Find.{AllBytes, Counted}
use Rattle.message.proofs.Digits.{one_digit, digits_two}
use Rattle.message.proofs.Sizes.{framed_length, framed_few}
use Rattle.settings.specs.Names.{Outcome, Verb, Write, Settings, Calling, Connection, Home, Version, Linked, Unlinked, Value, String, Power, Signal, Factory, Nowhere, Row, Fault, Stored}
use Rattle.settings.specs.Names.fault
use Rattle.settings.specs.Table.{between, is_speed, is_power, all_codes, sound_settings, options, row, is_connection, factory, factory_calling, sound_signal, sound_stand_in, sound_link, sound_connection}
use Rattle.settings.specs.Command.{fault_of, together, number_of, obey, numbers_at, reading, kept, outcome, answered, wrong, commanded}
use Rattle.settings.specs.Laws.{answer_of, Sound, Sendable, Short}
use Rattle.settings.proofs.Accept.{accepted, judged}
use Rattle.std.proofs.lemmas.Bool.{and_parts}
use Rattle.std.specs.Prelude.{Result, Ok, Err}
use Rattle.settings.proofs.Rows.{low_at, high_at, fits_home, number_fits, row_fits, row_number}
use Rattle.settings.proofs.Held.{values_in, value_in, power_in}
use Rattle.settings.proofs.Written.{defined, obey_sound}

-- How long a message of codes is.

-- a code has at most two digits
code : (n : ℕ) → ltb n 32 ≡ true → length (digits n) ≤ 2
code n h = digits_two n (omega (arith, ltb-true n 32 h))

codes : (cs : List ℕ) → all_codes cs ≡ true → length (numbers cs) ≤ 3 * length cs
codes [] h = lit≤ tt
codes (c ∷ cs) h =
    let b = and_parts (ltb c 32) (all_codes cs) h in
    simp length-append (omega (arith, code c b.0, codes cs b.1))

-- Numbers that are bytes.

within : (low high n : ℕ) → high ≤ 255 → between low high n ≡ true → n ≤ 255
within low high n h e = le_trans (leb-true n high (and_parts (leb low n) (leb n high) e).1) h

either : (n k : ℕ) (b : Bool) → k ≤ 255 → (b ≡ true → n ≤ 255) → (eqb n k || b) ≡ true → n ≤ 255
either n k b h rest = go (eqb n k) refl
  where
    go : (a : Bool) → eqb n k ≡ a → (a || b) ≡ true → n ≤ 255
    go true e o = omega (arith, eqb-true n k e)
    go false e o = rest o

speed : (n : ℕ) → is_speed n ≡ true → n ≤ 255
speed n = either n 60 _ (lit≤ tt) (either n 66 _ (lit≤ tt) (either n 75 _ (lit≤ tt) (λ e. omega (arith, eqb-true n 100 e))))

power : (n : ℕ) → is_power n ≡ true → n ≤ 255
power n = either n 0 _ (lit≤ tt) (either n 2 _ (lit≤ tt) (within 4 6 n (lit≤ tt)))

code_bytes : (cs : List ℕ) → all_codes cs ≡ true → AllBytes cs
code_bytes [] h = tt
code_bytes (c ∷ cs) h =
    let b = and_parts (ltb c 32) (all_codes cs) h in
    (omega (arith, ltb-true c 32 b.0), code_bytes cs b.1)

fault_byte : (f : Fault) → number_of f ≤ 255
fault_byte fault.Type = lit≤ tt
fault_byte fault.Id = lit≤ tt
fault_byte fault.Parameters = lit≤ tt
fault_byte fault.Checksum = lit≤ tt
fault_byte fault.Range = lit≤ tt

-- The answers.

-- up to seven numbers are never too long
few : (ns : List ℕ) → AllBytes ns → Counted ns → length ns ≤ 7 → Sendable ns
few ns b c l = record { bytes = b; counted = c; few = omega arith; short = omega (arith, framed_few ns) }

link : (id last port speed' : ℕ) → id ≤ 255 → last ≤ 255 → (between 1 last port && is_speed speed') ≡ true → Sendable (id ∷ 2 ∷ port ∷ speed' ∷ [])
link id last port speed' i l h =
    let b = and_parts (between 1 last port) (is_speed speed') h in
    few (id ∷ 2 ∷ port ∷ speed' ∷ []) (i, (lit≤ tt, (within 1 last port l b.0, (speed speed' b.1, tt)))) refl (lit≤ tt)

one : (id n : ℕ) → id ≤ 255 → n ≤ 255 → Sendable (id ∷ 1 ∷ n ∷ [])
one id n i h = few (id ∷ 1 ∷ n ∷ []) (i, (lit≤ tt, (h, tt))) refl (lit≤ tt)

-- eight codes, under an id of two digits
string : (id : ℕ) (cs : List ℕ) → leb id 99 ≡ true → all_codes cs ≡ true → length cs ≡ 8 → Sendable (id ∷ length cs ∷ cs)
string id cs i h l =
    let k = leb-true id 99 i in
    let e : length (digits (length cs)) ≡ 1 = rw (l, one_digit 8 (lit≤ tt)) in
    record { bytes = (le_trans k (lit≤ tt), (omega arith, code_bytes cs h)); counted = refl; few = omega arith; short = simp (framed_length, length-append, e) (omega (arith, l, digits_two id (omega (arith, k)), codes cs h)) }

-- the codes of a word are
word : (id n : ℕ) → leb id 99 ≡ true → Sendable (id ∷ length (unpacked n) ∷ unpacked n)
word id n i = string id (unpacked n) i (digits_below 32 (lit≤ tt) 8 n) (digits_length 32 (lit≤ tt) 8 n)

option_byte : (s : Settings) (i low high : ℕ) (w r : Bool) → sound_settings s ≡ true → fits_home (Value i low high) w r ≡ true → get_or s.values i 0 ≤ 255
option_byte s i low high w r h f =
    let b = (and_parts r _ f).1 in
    let p = and_parts (ltb i (length options) && leb high 255) (eqb low (low_at options i) && eqb high (high_at options i)) b in
    let q = and_parts (ltb i (length options)) (leb high 255) p.0 in
    let e = eqb-true high (high_at options i) (and_parts (eqb low (low_at options i)) (eqb high (high_at options i)) p.1).1 in
    within (low_at options i) (high_at options i) (get_or s.values i 0) (omega (arith, leb-true high 255 q.1, e)) (value_in options s.values i (values_in s h) (ltb-true i (length options) q.0))

linked : (c : Connection) → sound_connection c ≡ true → sound_link (row c.mode).home c.port c.speed ≡ true
unfolding sound_connection
linked c h = h

-- the values of a row, whose number is a byte and which for the connection is its mode's
tells : (s : Settings) (k : Calling) (c : Connection) (r : Row) (h : Home) → Sound s k c → r.home ≡ h → number_fits h r.number ≡ true → fits_home h r.written r.read ≡ true → (is_connection h ≡ true → sound_link h c.port c.speed ≡ true) → Sendable (numbers_at s k c r)
tells s k c r Version h e n f l = rw e (few (r.number ∷ 4 ∷ 0 ∷ 0 ∷ 1 ∷ 0 ∷ []) (leb-true r.number 255 n, (lit≤ tt, (lit≤ tt, (lit≤ tt, (lit≤ tt, (lit≤ tt, tt)))))) refl (lit≤ tt))
tells s k c r (Linked last) h e n f l = rw e (link r.number last c.port c.speed (leb-true r.number 255 n) (leb-true last 255 f) (l refl))
tells s k c r Unlinked h e n f l = rw e (few (r.number ∷ 0 ∷ []) (leb-true r.number 255 n, (lit≤ tt, tt)) refl (lit≤ tt))
tells s k c r (Value i low high) h e n f l = rw e (one r.number (get_or s.values i 0) (leb-true r.number 255 n) (option_byte s i low high r.written r.read h.settings f))
tells s k c r String h e n f l = rw e (word r.number s.string n)
tells s k c r Power h e n f l = rw e (one r.number k.power (leb-true r.number 255 n) (power k.power (power_in k h.calling)))
tells s k c r (Signal i) h e n f l = rw e (word r.number (get_or k.strings i 0) n)
tells s k c r Factory h e n f l = rw e (few (r.number ∷ 0 ∷ []) (leb-true r.number 255 n, (lit≤ tt, tt)) refl (lit≤ tt))
tells s k c r Nowhere h e n f l = rw e (few (r.number ∷ 0 ∷ []) (leb-true r.number 255 n, (lit≤ tt, tt)) refl (lit≤ tt))

-- the connection answers by the row of its mode, in whose range it is, and all else by its own
read : (t : Stored) (id : ℕ) → Sound t.settings t.calling t.connection → Sendable (reading t (row id))
read t id h = go (is_connection (row id).home) refl
  where
    by : (n : ℕ) → (is_connection (row n).home ≡ true → sound_link (row n).home t.connection.port t.connection.speed ≡ true) → Sendable (numbers_at t.settings t.calling t.connection (row n))
    by n = tells t.settings t.calling t.connection (row n) (row n).home h refl (row_number n) (row_fits n)

    go : (b : Bool) → is_connection (row id).home ≡ b → Sendable (numbers_at t.settings t.calling t.connection (cond b (row t.connection.mode) (row id)))
    go true e = by t.connection.mode (λ q. linked t.connection h.connection)
    go false e = by id (λ q. absurd (false≢true (sym e ∙ q)))

-- a command refuses, or succeeds with a message
module _ (s : Settings) (k : Calling) (c : Connection) (h : Sound s k c) (v : Verb) (count : ℕ) (fields : List ℕ) (l : length fields ≡ 11) where
  abbrev refusing : Fault → List ℕ
  refusing f = 255 ∷ 2 ∷ get_or fields 0 0 ∷ number_of f ∷ []

  answers_by : (P : Outcome → Type 0) → ((f : Fault) → P (outcome (kept s k c) (refusing f))) → ((t : Stored) (ns : List ℕ) → Sendable ns → P (outcome t ns)) → P (commanded s k c v count fields)
  unfolding commanded
  answers_by P refuses sends = go (wrong s k c v count fields) refl
    where
      go : (f : Result (Unit {0}) Fault) → wrong s k c v count fields ≡ f → P (answered f s k c v (row (get_or fields 0 0)) fields)
      go (Ok u) e =
          let i = get_or fields 0 0 in
          let t = obey s k c v (row i) (drop 2 fields) in
          let j = judged (fault_of v (row i) count fields) (together v t.settings) e in
          let a = accepted v (row i) count fields j.0 in
          sends t (reading t (row i)) (read t i (obey_sound s k c h v _ i fields l (defined v i a.n a.takes) a j.1))
      go (Err f) e = refuses f

  -- from sound settings any command answers a message, of at most 37 bytes
  pub answers : get_or fields 0 0 ≤ 255 → Sendable (answer_of (commanded s k c v count fields))
  answers byte =
      answers_by (λ o. Sendable (answer_of o)) (λ f. few (refusing f) (lit≤ tt, (lit≤ tt, (byte, (fault_byte f, tt)))) refl (lit≤ tt)) (λ t ns sent. sent)

  -- whatever stands in its first field, the answer is short
  pub answers_short : Short (commanded s k c v count fields)
  answers_short =
      answers_by Short (λ f. record { few = lit≤ tt; short = omega (arith, framed_few (refusing f)) })
      (λ t ns sent. record { few = sent.few; short = sent.short })

-- and 37 bytes are reached: string 91 written with eight codes of two digits
pub longest : (c : Connection) → length (framed (answer_of (commanded factory factory_calling c Write 10 (91 ∷ 8 ∷ 10 ∷ 10 ∷ 10 ∷ 10 ∷ 10 ∷ 10 ∷ 10 ∷ 10 ∷ 0 ∷ [])))) ≡ 37
unfolding commanded row sound_stand_in sound_signal digits
longest c = refl
