-- Calling one station out of many: the codes heard since the last forgetting, and what turns the motor on and off.
use Rattle.std.specs.Prelude.{ℕ, ◌<◌, ◌≡◌, Bool, true, false, cond, List, [], ◌∷◌, ◌++◌}
use Rattle.word.specs.Word.{all_below}
use Rattle.command.specs.Read.{read}
use Rattle.motor.specs.Motor.{signal, hearing_all, resting}
use Rattle.motor.specs.Matching.{string_codes, EndsWith}
use Rattle.motor.specs.Turning.{on_after, last_stop, Starts, TurnsOn, TurnsOff}
use Rattle.step.specs.State.{fresh_box}
use Rattle.step.specs.Hear.{listens, codes_asked, changes}
use Rattle.step.specs.Step.{step, Event, run}
use Rattle.demands.specs.Names.{Calling, Out, Nothing, One, Two, Finished, State, Stream, Host, Line, Tu}
use Rattle.demands.specs.Items.{items_of}
use Rattle.demands.specs.Writes.{forgets}
use Rattle.demands.specs.EveryCall.{Exactly}

-- the codes heard with this byte: each item's, where there is a motor to listen
abbrev pub hears : State → Event → List ℕ
hears s e = cond (listens s.calling s.connection) (codes_asked (items_of s e)) []

-- all that are heard since the last forgetting, after these were heard
abbrev pub heard_from : State → List ℕ → List Event → List ℕ
heard_from s hs [] = hs
heard_from s hs (e ∷ es) = heard_from (step e.stream s e.byte).state (cond (forgets s e) [] (hs ++ hears s e)) es

-- from a fresh box
abbrev pub heard_since : List Event → List ℕ
heard_since es = heard_from fresh_box [] es

-- TU bytes are codes, as every call sees to
abbrev pub CodedBy : Stream → ℕ → Type 0
CodedBy Host b = Unit {0}
CodedBy Line c = Unit {0}
CodedBy Tu c = c < 32

abbrev pub Coded : List Event → Type 0
Coded [] = Unit {0}
Coded (e ∷ es) = CodedBy e.stream e.byte × Coded es

-- how a station is called after these bytes
abbrev pub calling_after : List Event → Calling
calling_after es = (run fresh_box es).calling

-- the motor is that of the codes heard; after them and any others that one byte asks for, the next code turns it on exactly if it is off and
-- one of the request's starts stands at their end, and off exactly if it is on and string 92 does
pub record Stationed (es : List Event) : Type 0 where
  pub motor : (run fresh_box es).motor ≡ hearing_all (calling_after es) resting (heard_since es)
  pub on : (others : List ℕ) (c : ℕ) → all_below 32 (others ++ c ∷ []) ≡ true → let k = calling_after es in let hs = heard_since es ++ others in
      Exactly (TurnsOn k hs c) ((on_after k hs ≡ false) × Starts k (last_stop k hs) (hs ++ c ∷ []))
  pub off : (others : List ℕ) (c : ℕ) → all_below 32 (others ++ c ∷ []) ≡ true → let k = calling_after es in let hs = heard_since es ++ others in
      Exactly (TurnsOff k hs c) ((on_after k hs ≡ true) × EndsWith (string_codes (signal k 1)) (hs ++ c ∷ []))

-- a host byte that finishes no command
abbrev pub talks : Out → Bool
talks Nothing = true
talks (One b) = true
talks (Two b) = true
talks (Finished v count) = false

-- text or a TU code: the host is told of each change that it makes, and of nothing else
pub record Tells (s : State) (b : ℕ) : Type 0 where
  pub text : talks (read s.reader b).out ≡ true → (step Host s b).host ≡ changes s.calling s.connection.port s.motor (hears s (record { stream = Host; byte = b }))
  pub code : (step Tu s b).host ≡ changes s.calling s.connection.port s.motor (hears s (record { stream = Tu; byte = b }))
