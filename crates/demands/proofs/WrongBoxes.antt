-- Each wrong box fails its demand, at inputs where our box computes to something else.
-- Assumes nothing.
use Prim.Native.Nat.{ℕ}
use mathlib.Core.Path.{◌≡◌, sym, ap, ◌∙◌}
use mathlib.Core.List.{List, [], ◌∷◌}
use native.Mathlib.Omega.{arith}
use lib.ListN.{get_or}
use Rattle.code.specs.Rows.{row_at}
use Rattle.code.specs.Kinds.{kind_of}
use Rattle.code.specs.Convert.{conversion}
use Rattle.settings.specs.Table.{row, sound_string, sound_stand_in, sound_settings, sound_connection, sound_calling, is_signal}
use Rattle.settings.specs.Options.{endings, limit, onspace, onreturn, filter, reports, stand_in, ending_codes}
use Rattle.settings.specs.Command.{commanded}
use Rattle.motor.specs.Motor.{sound_motor}
use Rattle.step.specs.Hear.{listens, motor_after, told_of}
use Rattle.step.specs.Route.{route}
use Rattle.step.specs.State.{fresh_box}
use Rattle.linebox.specs.Ends.{state_after}
use Rattle.demands.specs.Names.{State, Host}
use Rattle.demands.specs.Box.{Result, Box, ours}
use Rattle.demands.specs.EveryCall.{EveryCall}
use Rattle.demands.specs.ExactCodes.{ExactCodes}
use Rattle.demands.specs.Traces.{mode1}
use Rattle.demands.specs.WrongBoxes.{stops, same_codes, silent, first_only, miscounts, miswrites}
use Rattle.demands.proofs.OurBox.{ours_every_call, every_call_decides}

-- just connected in mode 1, options off
abbrev connected : State
connected = state_after Host fresh_box mode1

-- room for some codes
abbrev room : List ℕ
room = 0 ∷ 0 ∷ 0 ∷ 0 ∷ []

-- what a box that meets demand 1 gives for host bytes
gives : (box : Box) → EveryCall box → (xs : List ℕ) → box Host connected xs room room ≡ ours Host connected xs room room
gives box h xs = every_call_decides box ours h ours_every_call Host connected xs room room

-- A box that always stops fails demand 1: it takes nothing of `A`.
pub stops_fails : (w : ℕ) → EveryCall (stops w) → ⊥
unfolding sound_string row route sound_stand_in sound_settings sound_calling is_signal sound_motor sound_connection commanded conversion kind_of row_at endings limit onspace onreturn filter reports stand_in ending_codes listens motor_after told_of
stops_fails w h =
    let e : ◌≡◌ {A = ℕ} 0 1 = ap (λ (r : Result). r.gives.taken) (gives (stops w) h (65 ∷ [])) in
    omega (arith, e)

-- One that sends the same codes always fails demand 2: `A` and `B` would read alike.
pub same_codes_fails : (cs : List ℕ) → ExactCodes (same_codes cs) → ⊥
unfolding sound_string row route sound_stand_in sound_settings sound_calling is_signal sound_motor sound_connection commanded conversion kind_of row_at endings limit onspace onreturn filter reports stand_in ending_codes listens motor_after told_of
same_codes_fails cs h =
    let a = (h Host connected (65 ∷ []) room room).first in
    let b = (h Host connected (66 ∷ []) room room).first in
    let e : ◌≡◌ {A = ℕ} 3 25 = ap (λ (ys : List ℕ). get_or ys 1 0) (sym a ∙ b) in
    omega (arith, e)

-- So does one that sends nothing.
pub silent_fails : ExactCodes silent → ⊥
silent_fails = same_codes_fails []

-- One that handles the first byte and merely takes the others fails demand 2: of `AB` it sends two codes, and three are due.
pub first_only_fails : ExactCodes first_only → ⊥
unfolding sound_string row route sound_stand_in sound_settings sound_calling is_signal sound_motor sound_connection commanded conversion kind_of row_at endings limit onspace onreturn filter reports stand_in ending_codes listens motor_after told_of
first_only_fails h =
    let e : ◌≡◌ {A = ℕ} 2 3 = (h Host connected (65 ∷ 66 ∷ []) room room).count_first in
    omega (arith, e)

-- A made-up count of bytes taken fails demand 1, whatever it is: nothing and `A` would count alike.
pub miscounts_fails : (n : ℕ) → EveryCall (miscounts n) → ⊥
unfolding sound_string row route sound_stand_in sound_settings sound_calling is_signal sound_motor sound_connection commanded conversion kind_of row_at endings limit onspace onreturn filter reports stand_in ending_codes listens motor_after told_of
miscounts_fails n h =
    let a : n ≡ 0 = ap (λ (r : Result). r.gives.taken) (gives (miscounts n) h []) in
    let b : n ≡ 1 = ap (λ (r : Result). r.gives.taken) (gives (miscounts n) h (65 ∷ [])) in
    omega (arith, a, b)

-- So does a made-up count of codes written.
pub miswrites_fails : (m : ℕ) → EveryCall (miswrites m) → ⊥
unfolding sound_string row route sound_stand_in sound_settings sound_calling is_signal sound_motor sound_connection commanded conversion kind_of row_at endings limit onspace onreturn filter reports stand_in ending_codes listens motor_after told_of
miswrites_fails m h =
    let a : m ≡ 0 = ap (λ (r : Result). r.gives.first) (gives (miswrites m) h []) in
    let b : m ≡ 2 = ap (λ (r : Result). r.gives.first) (gives (miswrites m) h (65 ∷ [])) in
    omega (arith, a, b)
