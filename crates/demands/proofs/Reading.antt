-- The items of a byte read as what is asked for.
-- Assumes nothing.
use Prim.Native.Nat.{ℕ, suc, ◌≤◌}
use mathlib.Core.Path.{◌≡◌, refl, sym, ap, ◌∙◌}
use mathlib.Core.Bool.{Bool, true, false, ◌&&◌, ◌||◌, and-false, cond}
use mathlib.Core.List.{List, [], ◌∷◌, ◌++◌, append_assoc, append-nil}
use native.Mathlib.Omega.{arith}
use borrow.Author.Tests.{ltb-true, ltb-false, lt-leb, eq-eqb, ne_eqb}
use lib.Dec.{T, eqb, ltb}
use Rattle.laws.specs.Same.{same}
use Rattle.std.proofs.lemmas.Bool.{and_parts}
use Rattle.laws.proofs.Same.{same_tested}
use Rattle.laws.proofs.Table.{upto, below}
use Rattle.code.specs.declared.Conversion.TheVariants.{Nothing, Free, Cased}
use Rattle.code.specs.Rows.{letters, figures, row_at}
use Rattle.code.specs.Kinds.{kind_of}
use Rattle.code.specs.Convert.{capital, seek, conversion}
use Rattle.command.specs.Read.{read, text_of}
use Rattle.sender.specs.declared.Asks.TheVariants.{Text}
use Rattle.settings.specs.Options.{stand_in}
use Rattle.settings.specs.Table.{has_code}
use Rattle.sender.specs.Item.{wanted_of, or_else, wanted_by, wanted_text}
use Rattle.step.specs.Route.{route}
use Rattle.step.specs.Step.{text, Event}
use Rattle.demands.specs.Names.{Case, Letters, Figures, Conversion, Settings, Connection, Dropped, ToPrinter, Wanted, State, Stream, Host, Line, Tu}
use Rattle.demands.specs.Asks.{itself, text_byte, text_bytes, host_asks, code_in, tu_asks, asks_by, asks}
use Rattle.demands.specs.Items.{carried_to, items_by, items_of}

-- what items are to print as
abbrev pub reads : List Wanted → List ℕ
reads [] = []
reads (w ∷ ws) = code_in w.case w.code ++ reads ws

-- Nothing from 128 on has a code.

abbrev low : List ℕ → Bool
low [] = true
low (x ∷ xs) = ltb x 128 && low xs

seek_none : (case : Case) (xs : List ℕ) (i b : ℕ) (other : Conversion) → low xs ≡ true → 128 ≤ b → seek case i xs b other ≡ other
seek_none case [] i b other l h = refl
seek_none case (x ∷ xs) i b other l h =
    let t = and_parts (ltb x 128) (low xs) l in
    let n : eqb x b ≡ false = ne_eqb x b (λ (e : x ≡ b). omega (arith, e, h, ltb-true x 128 t.0)) in
    rw n (seek_none case xs (suc i) b other t.1 h)

none_high : (b : ℕ) → 128 ≤ b → conversion b ≡ Nothing
unfolding conversion
none_high b h =
    let c : capital b ≡ b = rw (lt-leb b 122 (omega (arith, h)), and-false) in
    rw c (seek_none Letters letters 0 b (seek Figures 0 figures b Nothing) refl h ∙ seek_none Figures figures 0 b Nothing refl h)

-- Text.

byte_test : ℕ → Bool
byte_test b = same (reads (wanted_of (conversion b))) (itself b)

byte_all : T (upto byte_test 128)
unfolding byte_test conversion kind_of row_at
byte_all = tt

-- a byte's item reads as the byte in capitals
byte_reads : (b : ℕ) → reads (wanted_of (conversion b)) ≡ itself b
unfolding byte_test
byte_reads b = go (ltb b 128) refl
  where
    go : (l : Bool) → ltb b 128 ≡ l → reads (wanted_of (conversion b)) ≡ itself b
    go true e = same_tested (reads (wanted_of (conversion b))) (itself b) (below byte_test 128 byte_all b (ltb-true b 128 e))
    go false e = rw (none_high b (ltb-false b 128 e))

-- or as the stand-in in capitals
spoken_reads : (o : Settings) (b : ℕ) → reads (wanted_by o Text b) ≡ text_byte o b
spoken_reads o b = go (conversion b) refl (eqb (stand_in o) 0)
  where
    own : (x : Conversion) → conversion b ≡ x → reads (wanted_of x) ≡ itself b
    own x e = ap (λ (y : Conversion). reads (wanted_of y)) (sym e) ∙ byte_reads b

    go : (x : Conversion) → conversion b ≡ x → (z : Bool) → reads (wanted_of (or_else x (cond z Nothing (conversion (stand_in o))))) ≡ itself (cond (has_code x || z) b (stand_in o))
    go Nothing e true = own Nothing e
    go Nothing e false = byte_reads (stand_in o)
    go (Free c) e z = own (Free c) e
    go (Cased case c) e z = own (Cased case c) e

-- with 77 at 0 a byte asks for itself, or for nothing
pub itself_alone : (o : Settings) (b : ℕ) → stand_in o ≡ 0 → text_byte o b ≡ itself b
itself_alone o b e = rw (eq-eqb (stand_in o) 0 e) (go (has_code (conversion b)))
  where
    go : (x : Bool) → itself (cond (x || true) b (stand_in o)) ≡ itself b
    go true = refl
    go false = refl

reads_append : (xs ys : List Wanted) → reads (xs ++ ys) ≡ reads xs ++ reads ys
reads_append [] ys = refl
reads_append (x ∷ xs) ys = rw (reads_append xs ys, append_assoc)

text_reads : (o : Settings) (bs : List ℕ) → reads (wanted_text o bs) ≡ text_bytes o bs
text_reads o [] = refl
text_reads o (b ∷ bs) = rw (reads_append (wanted_by o Text b) (wanted_text o bs), spoken_reads o b, text_reads o bs)

-- the box's route is the mode's
host_reads : (o : Settings) (k : Connection) (bs : List ℕ) → reads (text o (route k Host) bs) ≡ host_asks o k bs
unfolding route
host_reads o k bs = go (eqb k.mode 1)
  where
    go : (b : Bool) → reads (text o (cond b ToPrinter Dropped) bs) ≡ cond b (text_bytes o bs) []
    go true = text_reads o bs
    go false = refl

tu_reads : (k : Connection) (s : State) (c : ℕ) → reads (carried_to (route k Tu) s c) ≡ tu_asks k s.incoming c
unfolding route
tu_reads k s c = go (eqb k.mode 4)
  where
    go : (b : Bool) → reads (carried_to (cond b ToPrinter Dropped) s c) ≡ cond b (code_in s.incoming c) []
    go true = append-nil (code_in s.incoming c)
    go false = refl

reads_by : (t : Stream) (s : State) (b : ℕ) → reads (items_by t s b) ≡ asks_by t s b
reads_by Host s b = host_reads s.settings s.connection (text_of (read s.reader b).out)
reads_by Line s b = refl
reads_by Tu s b = tu_reads s.connection s b

-- its items read as what it asks for
pub items_read : (s : State) (e : Event) → reads (items_of s e) ≡ asks s e
items_read s e = reads_by e.stream s e.byte
