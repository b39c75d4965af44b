-- The example of reading back meets every premise, by computed tests, and so reads back; so does that of a keyboard.
-- Assumes nothing.
use Prim.Native.Nat.{ℕ}
use mathlib.Core.Path.{◌≡◌, refl, sym, ap, ◌∙◌}
use mathlib.Core.Bool.{Bool, true, false, not, ◌&&◌}
use mathlib.Core.List.{List, [], ◌∷◌, ◌++◌}
use borrow.Author.Tests.{not-true}
use lib.ListN.{length, take, drop}
use Rattle.std.proofs.lemmas.Bool.{and_parts}
use Rattle.code.specs.Rows.{row_at}
use Rattle.code.specs.Kinds.{kind_of}
use Rattle.code.specs.Convert.{conversion}
use Rattle.message.specs.Message.{digits}
use Rattle.settings.specs.Table.{row, sound_string, sound_stand_in, sound_settings, sound_connection, sound_calling, is_signal}
use Rattle.settings.specs.Command.{commanded}
use Rattle.settings.specs.Options.{endings, limit, onspace, onreturn, filter, reports, stand_in, ending_codes}
use Rattle.printer.specs.Printer.{from, prints_all}
use Rattle.motor.specs.Motor.{sound_motor}
use Rattle.step.specs.Hear.{listens, motor_after, told_of}
use Rattle.step.specs.Route.{route}
use Rattle.step.specs.State.{fresh_box}
use Rattle.step.specs.Step.{step, Event, run}
use Rattle.linebox.specs.Ends.{firsts_of}
use Rattle.demands.specs.Names.{Letters, State, Line}
use Rattle.demands.specs.Box.{ours}
use Rattle.demands.specs.Writes.{connects}
use Rattle.demands.specs.Lent.{lines, in_force, took_all, sent_all, exchanges}
use Rattle.demands.specs.Printing.{characters_of}
use Rattle.demands.specs.ReadingBack.{read_back, plain_text, AllPlain, Joins}
use Rattle.demands.specs.ReadingExample.{calls, before, joining, after, later, connected, codes, last_codes, text, typed, typed_text}
use Rattle.demands.proofs.Lent.{ours_reads_back}
use Rattle.demands.proofs.ReadingBack.{typed_reads}

-- The premises as a test.

abbrev plain : State → Event → Bool
plain s e = not (connects s e) && (not (endings s.settings) && not (reports s.settings))

abbrev all_plain : State → List Event → Bool
all_plain s [] = true
all_plain s (e ∷ es) = plain s e && all_plain (step e.stream s e.byte).state es

all_plain_law : (s : State) (es : List Event) → all_plain s es ≡ true → AllPlain s es
all_plain_law s [] h = tt
all_plain_law s (e ∷ es) h =
    let x = (step e.stream s e.byte).state in
    let p = and_parts (plain s e) (all_plain x es) h in
    let q = and_parts (not (connects s e)) (not (endings s.settings) && not (reports s.settings)) p.0 in
    let r = and_parts (not (endings s.settings)) (not (reports s.settings)) q.1 in
    (record { stays = not-true (connects s e) q.0; endings = not-true (endings s.settings) r.0; reports = not-true (reports s.settings) r.1 }, all_plain_law x es p.1)

-- The calls.

pub example_took : took_all (exchanges ours fresh_box calls) ≡ before ++ (joining ∷ (after ++ later))
unfolding commanded row route sound_stand_in sound_settings sound_calling is_signal sound_motor sound_connection sound_string conversion kind_of row_at digits endings limit onspace onreturn filter reports stand_in ending_codes listens motor_after told_of
example_took = refl

pub example_sent : sent_all (exchanges ours fresh_box calls) ≡ codes ++ last_codes
unfolding commanded row route sound_stand_in sound_settings sound_calling is_signal sound_motor sound_connection sound_string conversion kind_of row_at digits endings limit onspace onreturn filter reports stand_in ending_codes listens motor_after told_of
example_sent = refl

pub example_joins : Joins (run fresh_box before) joining
unfolding commanded row route sound_stand_in sound_settings sound_calling is_signal sound_motor sound_connection sound_string
example_joins = record { connects = refl; mode1 = refl }

pub example_plain : AllPlain connected after
unfolding commanded row route sound_stand_in sound_settings sound_calling is_signal sound_motor sound_connection sound_string conversion kind_of row_at endings limit onspace onreturn filter reports stand_in ending_codes listens motor_after told_of
example_plain = all_plain_law connected after refl

-- the codes that `after` sent, and its text
pub example_stretch : take (length (lines connected after)) (drop (length (lines fresh_box before)) (codes ++ last_codes)) ≡ codes
unfolding commanded row route sound_stand_in sound_settings sound_calling is_signal sound_motor sound_connection sound_string conversion kind_of row_at endings limit onspace onreturn filter reports stand_in ending_codes listens motor_after told_of
example_stretch = refl

pub example_text : plain_text connected after ≡ text
unfolding commanded row route sound_stand_in sound_settings sound_calling is_signal sound_motor sound_connection sound_string conversion kind_of row_at endings limit onspace onreturn filter reports stand_in ending_codes listens motor_after told_of
example_text = refl

-- so they read back
pub example_reads_back : read_back connected (in_force connected after) codes ≡ text
example_reads_back =
    ap (read_back connected (in_force connected after)) (sym example_stretch ∙ ap (λ (cs : List ℕ). take (length (lines connected after)) (drop (length (lines fresh_box before)) cs)) (sym example_sent))
    ∙ ours_reads_back fresh_box calls before joining after later example_took example_joins example_plain
    ∙ example_text

-- The host gets `1 Q` of FIGS 1 SP Q, and so a printer that unshifts on space shows it, anywhere on the line.
pub example_typed : firsts_of Line connected typed ≡ typed_text
unfolding commanded row route sound_stand_in sound_settings sound_calling is_signal sound_motor sound_connection sound_string kind_of row_at onspace onreturn reports listens motor_after told_of
example_typed = refl

pub example_shown : characters_of (prints_all (from Letters 7 true false) typed) ≡ typed_text
unfolding commanded row route sound_stand_in sound_settings sound_calling is_signal sound_motor sound_connection sound_string onspace onreturn reports
example_shown = sym (typed_reads connected (from Letters 7 true false) typed refl refl refl refl refl) ∙ example_typed
