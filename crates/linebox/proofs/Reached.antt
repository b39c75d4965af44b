-- The maxima are reached, each by one byte in a sound state.
-- Assumes nothing.
use Prim.Native.Nat.{ℕ}
use mathlib.Core.Path.{◌≡◌, refl}
use mathlib.Core.Bool.{true}
use mathlib.Core.List.{List, [], ◌∷◌}
use lib.ListN.{length}
use Rattle.code.specs.Rows.{row_at}
use Rattle.code.specs.Kinds.{kind_of}
use Rattle.code.specs.Convert.{conversion}
use Rattle.message.specs.Message.{digits}
use Rattle.command.specs.declared.Verb.TheVariants as verb
use Rattle.command.specs.declared.Form.TheVariants as form
use Rattle.command.specs.declared.Stage.{Stage}
use Rattle.command.specs.declared.Stage.TheVariants.{Held, Text, Fields}
use Rattle.settings.specs.Table.{row, sound_string, sound_signal, is_signal, sound_stand_in, sound_settings, sound_calling, sound_connection}
use Rattle.settings.specs.Options.{endings, limit, onspace, onreturn, filter, reports, stand_in, ending_codes}
use Rattle.settings.specs.Command.{commanded}
use Rattle.motor.specs.Motor.{latest, size, matches, signal, starts, hearing, sound_motor}
use Rattle.std.specs.Prelude.{Some, None}
use Rattle.linebox.specs.Names.{Letters, Figures, State, Stream, Host, Line, Tu}
use Rattle.step.specs.State.{fresh_box, sound, with_reader, with_sender, with_incoming, with_stored}
use Rattle.step.specs.Route.{route}
use Rattle.step.specs.Hear.{listens, motor_after, told_of}
use Rattle.step.specs.Step.{step}
use Rattle.step.specs.Byte.{first_of, second_of}
use Rattle.step.specs.Laws.{most_first, most_second}

-- the state after commands that write, each by its fields
abbrev written : State → List (List ℕ) → State
written s [] = s
written s (f ∷ fs) = written (with_stored s (commanded s.settings s.calling s.connection verb.Write (length f) f).stored) fs

-- 1,2,1,60 and 4,2,1,60 connect
abbrev mode1 : List ℕ
mode1 = 1 ∷ 2 ∷ 1 ∷ 60 ∷ []

abbrev mode4 : List ℕ
mode4 = 4 ∷ 2 ∷ 1 ∷ 60 ∷ []

-- connected, 49 and 71 on, limit 10, this string 90, 74 on: an ending is due, and each CR of it is followed by LTRS
abbrev due : List ℕ → List ℕ → Stage → State
due mode string stage =
    let s = written fresh_box (mode ∷ (49 ∷ 1 ∷ 1 ∷ []) ∷ (50 ∷ 1 ∷ 10 ∷ []) ∷ (71 ∷ 1 ∷ 1 ∷ []) ∷ (74 ∷ 1 ∷ 1 ∷ []) ∷ (90 ∷ 8 ∷ string) ∷ []) in
    with_reader (with_sender (with_incoming s Figures) (record { held = record { case = Some Letters; column = Some 10 }; last = None })) (record { stage = stage; values = 90 ∷ 0 ∷ 0 ∷ 0 ∷ 0 ∷ 0 ∷ 0 ∷ 0 ∷ 0 ∷ 0 ∷ 0 ∷ [] })

abbrev shifting : List ℕ
shifting = 27 ∷ 8 ∷ 27 ∷ 8 ∷ 27 ∷ 8 ∷ 27 ∷ 8 ∷ []

-- and 91 is read
abbrev asking : State → State
asking s = with_reader s (record { stage = Fields verb.Read form.Digits 1; values = 91 ∷ 0 ∷ 0 ∷ 0 ∷ 0 ∷ 0 ∷ 0 ∷ 0 ∷ 0 ∷ 0 ∷ 0 ∷ [] })

abbrev wide : List ℕ
wide = 27 ∷ 27 ∷ 27 ∷ 27 ∷ 27 ∷ 27 ∷ 27 ∷ 27 ∷ []

-- 53 is 2, and string 91 is this
abbrev calling : List ℕ → State → State
calling string s = written s ((53 ∷ 1 ∷ 2 ∷ []) ∷ (91 ∷ 8 ∷ string) ∷ [])

pub record Reached (t : Stream) (s : State) (b n m : ℕ) : Type 0 where
  pub sound : sound s ≡ true
  pub first : length (first_of t (step t s b)) ≡ n
  pub second : length (second_of t (step t s b)) ≡ m

-- a held `/` and a letter
pub text : Reached Host (due mode1 shifting Held) 65 (most_first Host) 0
unfolding sound_string is_signal sound_stand_in sound_settings sound_calling sound_connection sound_motor commanded row route endings limit onspace onreturn filter stand_in ending_codes conversion kind_of row_at listens motor_after told_of
text = record { sound = refl; first = refl; second = refl }

-- string 91 read
pub answer : Reached Host (asking (calling wide (due mode1 shifting Text))) 13 0 (most_second Host)
unfolding sound_string sound_signal is_signal sound_stand_in sound_settings sound_calling sound_connection sound_motor commanded row route ending_codes digits
answer = record { sound = refl; first = refl; second = refl }

-- a figure from the TU that starts the motor
pub figure : Reached Tu (calling (23 ∷ 0 ∷ 0 ∷ 0 ∷ 0 ∷ 0 ∷ 0 ∷ 0 ∷ []) (due mode4 shifting Text)) 23 (most_first Tu) (most_second Tu)
unfolding sound_string sound_signal is_signal sound_stand_in sound_settings sound_calling sound_connection sound_motor commanded row route endings limit onspace onreturn filter ending_codes kind_of row_at digits listens motor_after told_of latest size matches signal starts hearing
figure = record { sound = refl; first = refl; second = refl }

-- a line code to the host, and one to the TU
pub to_host : Reached Line (due mode1 shifting Text) 3 (most_first Line) 0
unfolding sound_string is_signal sound_stand_in sound_settings sound_calling sound_connection sound_motor commanded row route reports ending_codes kind_of row_at
to_host = record { sound = refl; first = refl; second = refl }

pub to_tu : Reached Line (due mode4 shifting Text) 3 0 (most_second Line)
unfolding sound_string is_signal sound_stand_in sound_settings sound_calling sound_connection sound_motor commanded row route ending_codes
to_tu = record { sound = refl; first = refl; second = refl }
