-- The parts of a spelling have as many bytes as the offsets leave for them.
-- Assumes nothing.
use Prim.Native.Nat.{ℕ}
use mathlib.Core.Path.{◌≡◌, refl}
use mathlib.Core.List.{List, [], ◌∷◌, ◌++◌}
use lib.ListN.{length, set, replicate}
use Rattle.spelling.specs.Names.{Stage, Text, Swallow, Held, Begun, Lettered, Typed, Fields, Discard, Settings, Calling, Run, Off, Called, On, Motor, State, Option, Some, None}
use Rattle.spelling.specs.Spelling.{part, case_byte, known_byte, last_byte, offsets, sets_at, string_bytes, connection_bytes, column_bytes, stage_bytes, run_bytes, heard_bytes, signals_bytes, spelt, puts}

-- so many bytes
abbrev pub Has : ℕ → List ℕ → Type 0
Has n xs = part xs 0 n ≡ xs

pub two : (c : Option ℕ) → Has 2 (column_bytes c)
two None = refl
two (Some n) = refl

pub eight : (o : Settings) → Has 8 (string_bytes o)
eight o = refl

pub eight_heard : (m : Motor) → Has 8 (heard_bytes m)
eight_heard m = refl

pub forty : (k : Calling) → Has 40 (signals_bytes k)
forty k = refl

pub two_run : (r : Run) → Has 2 (run_bytes r)
two_run Off = refl
two_run (Called n) = refl
two_run On = refl

pub four : (s : Stage) → Has 4 (stage_bytes s)
four Text = refl
four Swallow = refl
four Held = refl
four Begun = refl
four (Lettered small t) = refl
four (Typed v) = refl
four (Fields v f last) = refl
four Discard = refl

-- over 128 zeros, the parts one after another make the spelling
module _ (s : State) where
  abbrev pub sender : List ℕ → List ℕ
  sender y = known_byte s.sender.held.case ∷ y ++ last_byte s.sender.last ∷ []

  abbrev filled : List ℕ → List ℕ → List ℕ → List ℕ → List ℕ → List ℕ → List ℕ
  filled x y z r h w =
      let fore = puts (puts (sets_at (puts (replicate 128 0) 6 x) offsets 0 s.settings.values) 14 (connection_bytes s.connection)) 17 (known_byte s.sender.held.case ∷ []) in
      let front = puts (puts fore 18 y) 20 (last_byte s.sender.last ∷ []) in
      let middle = puts (puts (set (set front 21 (case_byte s.reading)) 22 (case_byte s.incoming)) 23 z) 27 (part s.reader.values 0 11) in
      puts (puts (puts (set middle 39 s.calling.power) 64 w) 44 r) 56 h

  abbrev pub rest : List ℕ → List ℕ → List ℕ → List ℕ
  rest r h w = 0 ∷ s.calling.power ∷ replicate 4 0 ++ (r ++ (replicate 10 0 ++ (h ++ (w ++ replicate 24 0))))

  abbrev pub laid : List ℕ → List ℕ → List ℕ → List ℕ → List ℕ → List ℕ → List ℕ
  laid x y z r h w =
      sets_at (replicate 6 0 ++ (x ++ (connection_bytes s.connection ++ (sender y ++ (case_byte s.reading ∷ case_byte s.incoming ∷ (z ++ part s.reader.values 0 11) ++ rest r h w))))) offsets 0 s.settings.values

  abbrev pub bytes : List ℕ
  bytes = filled (string_bytes s.settings) (column_bytes s.sender.held.column) (stage_bytes s.reader.stage) (run_bytes s.motor.run) (heard_bytes s.motor) (signals_bytes s.calling)

  pub filled_spelt : bytes ≡ spelt s
  unfolding spelt
  filled_spelt = go (string_bytes s.settings) _ _ _ (heard_bytes s.motor) (signals_bytes s.calling) (eight s.settings) (two s.sender.held.column) (four s.reader.stage) (two_run s.motor.run) (eight_heard s.motor) (forty s.calling)
    where
      go : (x y z r h w : List ℕ) → Has 8 x → Has 2 y → Has 4 z → Has 2 r → Has 8 h → Has 40 w → filled x y z r h w ≡ laid x y z r h w
      go x y z r h w e f g i j k = rw (← e, ← f, ← g, ← i, ← j, ← k)

  -- what each part leaves, put over what the parts before it left
  pub put_all :
      {a b b₁ b₂ d e f g h i j k : List ℕ}
      → a ≡ sets_at (puts (replicate 128 0) 6 (string_bytes s.settings)) offsets 0 s.settings.values
      → b ≡ puts a 14 (connection_bytes s.connection)
      → b₁ ≡ puts b 17 (known_byte s.sender.held.case ∷ [])
      → b₂ ≡ puts b₁ 18 (column_bytes s.sender.held.column)
      → d ≡ puts b₂ 20 (last_byte s.sender.last ∷ [])
      → e ≡ puts d 21 (case_byte s.reading ∷ [])
      → f ≡ puts e 22 (case_byte s.incoming ∷ [])
      → g ≡ puts f 23 (stage_bytes s.reader.stage)
      → h ≡ puts g 27 (part s.reader.values 0 11)
      → i ≡ puts (set h 39 s.calling.power) 64 (signals_bytes s.calling)
      → j ≡ puts i 44 (run_bytes s.motor.run)
      → k ≡ puts j 56 (heard_bytes s.motor)
      → k ≡ spelt s
  put_all p q r₁ r₂ r t u v w x y z = rw (z, y, x, w, v, u, t, r, r₂, r₁, q, p) filled_spelt

  -- and bytes that are it are 128
  pub as_long : (b : List ℕ) → b ≡ spelt s → length b ≡ 128
  unfolding spelt
  as_long b e = rw e (go (string_bytes s.settings) _ _ _ (heard_bytes s.motor) (signals_bytes s.calling) (eight s.settings) (two s.sender.held.column) (four s.reader.stage) (two_run s.motor.run) (eight_heard s.motor) (forty s.calling))
    where
      go : (x y z r h w : List ℕ) → Has 8 x → Has 2 y → Has 4 z → Has 2 r → Has 8 h → Has 40 w → length (laid x y z r h w) ≡ 128
      go x y z r h w e f g i j k = rw (← e, ← f, ← g, ← i, ← j, ← k)
