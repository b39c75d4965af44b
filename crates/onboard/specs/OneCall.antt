-- Demand 1 of a call for C: what its promise in `board` fixes is what the demand says of the state that the bytes spell.
use Rattle.std.specs.Prelude.{ℕ, ◌≡◌, true, false, List, get_or}
use Rattle.linebox.specs.Call.{stopped}
use Rattle.spelling.specs.Spelling.{state_of}
use Rattle.board.specs.Calls.{spells_sound, Boarded}
use Rattle.demands.specs.Box.{Result, resulting}
use Rattle.demands.specs.EveryCall.{Ended}
use Rattle.onboard.specs.Names.{Stream}

-- what a call for C was given: a stream, the state's bytes, the input and the two lent buffers; and what it gave: its answer, the
-- state's bytes, the counts in `done`, and the buffers after it.
pub record Wire : Type 0 where
  pub stream : Stream
  pub state : List ℕ
  pub bytes : List ℕ
  pub one : List ℕ
  pub two : List ℕ
  pub answer : ℕ
  pub after : List ℕ
  pub done : List ℕ
  pub first : List ℕ
  pub second : List ℕ

-- the promise of `linebox_host`, `linebox_line` or `linebox_tu`
abbrev pub Promised : Wire → Type 0
Promised c = Boarded c.stream c.state c.bytes c.one c.two c.after c.first c.second c.done c.answer

-- what it gave as a box's result, with the state that the bytes spell
abbrev pub seen : Wire → Result
seen c = record {
  gives = record { answer = c.answer; taken = get_or c.done 0 0; first = get_or c.done 1 0; second = get_or c.done 2 0; state = state_of c.after };
  first = c.first;
  second = c.second;
}

-- Any bytes, any input, any buffers.
pub record OneCall (c : Wire) : Type 0 where
  -- bytes that spell a sound state: demand 1 of that state, and the bytes after it spell a sound state again
  pub ended : spells_sound c.state ≡ true → Ended c.stream (state_of c.state) c.bytes c.one c.two (seen c)
  pub spelt : spells_sound c.state ≡ true → spells_sound c.after ≡ true
  -- any others: answer 3, nothing taken or written, and every byte stays
  pub refused : spells_sound c.state ≡ false → seen c ≡ resulting (stopped 3 (state_of c.state)) c.one c.two
  pub kept : spells_sound c.state ≡ false → c.after ≡ c.state
