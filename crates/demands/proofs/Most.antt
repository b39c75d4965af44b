-- The most that one byte makes from a sound state: 16 line codes and 37 host bytes from the host, 14 and 17 from the TU, one host byte or one
-- TU code from the line.
-- Assumes nothing.
use Prim.Native.Nat.{ℕ, zero, suc, ◌≤◌}
use mathlib.Core.Path.{◌≡◌, sym, ◌∙◌}
use mathlib.Core.Bool.{Bool, true, false, cond, true≢false}
use mathlib.Core.List.{List, [], ◌∷◌, append-nil}
use native.Mathlib.Nat.{sub-zero}
use native.Mathlib.Omega.{arith}
use borrow.Author.Tests.{le-leb}
use lib.Dec.{lit≤}
use lib.ListN.{length, get_or}
use Rattle.code.specs.Kinds.{kind_of}
use Rattle.code.specs.Rows.{row_at}
use Rattle.command.specs.Read.{read}
use Rattle.settings.specs.Laws.{Sound}
use Rattle.settings.specs.Options.{reports}
use Rattle.settings.proofs.Sent.{answers_short}
use Rattle.sender.specs.Item.{wanted}
use Rattle.sender.specs.Reading.{read_case}
use Rattle.sender.proofs.Few.{text_few}
use Rattle.agree.proofs.Length.{item_length, items_length}
use Rattle.step.specs.Route.{route}
use Rattle.step.specs.State.{sound, with_reader, with_incoming}
use Rattle.step.proofs.Hearing.{told_few}
use Rattle.step.specs.Step.{Step, sends, text, hosted, is_read, read_as, lined, tued, step}
use Rattle.step.specs.Byte.{first_of, second_of}
use Rattle.step.specs.Laws.{Parts, Few, most_first, most_second}
use Rattle.step.proofs.Stays.{sound_parts}
use Rattle.linebox.specs.Call.{call}
use Rattle.linebox.specs.Ends.{fits_at, Ends}
use Rattle.linebox.proofs.Ending.{ends}
use Rattle.demands.specs.Names.{Case, Kind, Settings, Wanted, Route, Dropped, ToPrinter, ToHost, ToTu, Out, Nothing, One, Two, Finished, State, Stream, Host, Line, Tu}

-- what the command reader made is two bytes at most
text_two : (o : Settings) (k : Route) (bs : List ℕ) → length bs ≤ 2 → length (text o k bs) ≤ 2
text_two o Dropped bs h = lit≤ tt
text_two o ToPrinter bs h = omega (arith, text_few o bs, h)
text_two o ToHost bs h = lit≤ tt
text_two o ToTu bs h = lit≤ tt

sends_few : (s : State) (ws : List Wanted) → Sound s.settings s.calling s.connection → length ws ≤ 2 → Few Host (sends s ws)
sends_few s ws h few = record { line = items_length s.settings h.settings s.sender ws few; host = omega (arith, told_few s ws, few); tu = lit≤ tt }

hosted_few : (s : State) (fields : List ℕ) (out : Out) → length fields ≡ 11 → Sound s.settings s.calling s.connection → Few Host (hosted s fields out)
hosted_few s fields Nothing l h = record { line = lit≤ tt; host = lit≤ tt; tu = lit≤ tt }
hosted_few s fields (One b) l h = sends_few s (text s.settings (route s.connection Host) (b ∷ [])) h (text_two s.settings (route s.connection Host) (b ∷ []) (lit≤ tt))
hosted_few s fields (Two b) l h = sends_few s (text s.settings (route s.connection Host) (47 ∷ b ∷ [])) h (text_two s.settings (route s.connection Host) (47 ∷ b ∷ []) (lit≤ tt))
hosted_few s fields (Finished v count) l h = record { line = lit≤ tt; host = (answers_short s.settings s.calling s.connection h v count fields l).short; tu = lit≤ tt }

read_few : (reports : Bool) (case : Case) (k : Kind) (c : ℕ) → length (read_as reports case k c) ≤ 1
read_few reports case k c = go (is_read reports k)
  where
    go : (b : Bool) → length (cond b (row_at case c ∷ []) []) ≤ 1
    go true = lit≤ tt
    go false = lit≤ tt

lined_few : (k : Route) (s : State) (c : ℕ) → Few Line (lined k s c)
lined_few Dropped s c = record { line = lit≤ tt; host = lit≤ tt; tu = lit≤ tt }
lined_few ToPrinter s c = record { line = lit≤ tt; host = lit≤ tt; tu = lit≤ tt }
lined_few ToHost s c = record { line = lit≤ tt; host = read_few (reports s.settings) s.reading (kind_of c) c; tu = lit≤ tt }
lined_few ToTu s c = record { line = lit≤ tt; host = lit≤ tt; tu = lit≤ tt }

tued_few : (k : Route) (s : State) (c : ℕ) → Sound s.settings s.calling s.connection → Few Tu (tued k s c)
tued_few Dropped s c h = record { line = lit≤ tt; host = lit≤ tt; tu = lit≤ tt }
tued_few ToPrinter s c h = record {
  line = rw append-nil (item_length s.settings h.settings s.sender (wanted s.incoming c));
  host = told_few (with_incoming s (read_case s.settings s.incoming (kind_of c))) (wanted s.incoming c ∷ []);
  tu = lit≤ tt;
}
tued_few ToHost s c h = record { line = lit≤ tt; host = lit≤ tt; tu = lit≤ tt }
tued_few ToTu s c h = record { line = lit≤ tt; host = lit≤ tt; tu = lit≤ tt }

step_few : (t : Stream) (s : State) (b : ℕ) → Parts s → Few t (step t s b)
step_few Host s b p = hosted_few (with_reader s (read s.reader b).reader) s.reader.values (read s.reader b).out p.eleven p.held
step_few Line s b p = lined_few (route s.connection Line) s b
step_few Tu s b p = tued_few (route s.connection Tu) s b p.held

-- the true maxima
pub most : (t : Stream) (s : State) (b : ℕ) → sound s ≡ true → Few t (step t s b)
most t s b h = step_few t s b (sound_parts s h)

-- in the buffers as they are lent
few_first : (t : Stream) (x : Step) → Few t x → length (first_of t x) ≤ most_first t
few_first Host x f = f.line
few_first Line x f = f.host
few_first Tu x f = f.line

few_second : (t : Stream) (x : Step) → Few t x → length (second_of t x) ≤ most_second t
few_second Host x f = f.host
few_second Line x f = f.tu
few_second Tu x f = f.host

few_forty : (t : Stream) (x : Step) → Few t x → (length x.line ≤ 40) × ((length x.host ≤ 40) × (length x.tu ≤ 40))
few_forty Host x f = (omega (arith, f.line), (omega (arith, f.host), omega (arith, f.tu)))
few_forty Line x f = (omega (arith, f.line), (omega (arith, f.host), omega (arith, f.tu)))
few_forty Tu x f = (omega (arith, f.line), (omega (arith, f.host), omega (arith, f.tu)))

module _ (t : Stream) (s : State) (b : ℕ) (h : sound s ≡ true) where
  pub most_first_law : length (first_of t (step t s b)) ≤ most_first t
  most_first_law = few_first t (step t s b) (most t s b h)

  pub most_second_law : length (second_of t (step t s b)) ≤ most_second t
  most_second_law = few_second t (step t s b) (most t s b h)

  -- one byte never makes more than 40 codes or 40 host bytes
  pub forty : (length (step t s b).line ≤ 40) × ((length (step t s b).host ≤ 40) × (length (step t s b).tu ≤ 40))
  forty = few_forty t (step t s b) (most t s b h)

-- with room for the most that one byte makes, answer 1 never comes with nothing taken
pub goes_on : (t : Stream) (s : State) (xs : List ℕ) (a b : ℕ) → most_first t ≤ a → most_second t ≤ b → (call t s xs a b).answer ≡ 1 → 1 ≤ (call t s xs a b).taken
goes_on t s xs a b ra rb e = go (call t s xs a b).taken (rw e at (ends t s xs a b))
  where
    go : (n : ℕ) → Ends t s xs a b 1 n → 1 ≤ n
    go zero p =
        let x = get_or xs 0 0 in
        let f : length (first_of t (step t s x)) ≤ a = omega (arith, most_first_law t s x p.state) in
        let g : length (second_of t (step t s x)) ≤ b = omega (arith, most_second_law t s x p.state) in
        let h : fits_at t s xs a b 0 ≡ true = rw (sub-zero, sub-zero, le-leb _ _ f, le-leb _ _ g) in
        absurd (true≢false (sym h ∙ p.next.1.1))
    go (suc n) p = omega arith
