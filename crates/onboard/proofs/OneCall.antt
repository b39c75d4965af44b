-- Demand 1 of the calls for C: the call that the bytes ask for is our box's on the state that they spell, and the spelling of the state
-- after it reads back as that state.
-- Assumes nothing.
use Prim.Native.Nat.{ℕ}
use mathlib.Core.Path.{◌≡◌, ap, ◌∙◌}
use mathlib.Core.Bool.{true, false}
use mathlib.Core.List.{List}
use lib.ListN.{length, get_or}
use Rattle.std.proofs.lemmas.Bool.{and_parts}
use Rattle.laws.specs.Written.{fronted}
use Rattle.step.specs.State.{sound}
use Rattle.step.proofs.Stays.{sound_run}
use Rattle.linebox.specs.Call.{Done, call, stopped}
use Rattle.linebox.specs.Ends.{events}
use Rattle.spelling.specs.Spelling.{spells, spelt, state_of}
use Rattle.spelling.proofs.ReadBack.{sound_formed, read_back}
use Rattle.board.specs.Calls.{spells_sound, after, asked, Boards}
use Rattle.board.proofs.Asked.{three}
use Rattle.demands.specs.Box.{resulting, ours}
use Rattle.demands.specs.EveryCall.{Ended}
use Rattle.demands.proofs.OurBox.{ours_every_call}
use Rattle.onboard.specs.Names.{State, Stream}
use Rattle.onboard.specs.OneCall.{Wire, Promised, seen, OneCall}

-- The spelling of a sound state is the spelling of just that state.

pub spelt_back : (s : State) → sound s ≡ true → (spells (spelt s) ≡ true) × (state_of (spelt s) ≡ s)
spelt_back s h = read_back s (sound_formed s h)

-- What the promises of the three calls have in common: all follows what the bytes ask for.
record Follows (c : Wire) (d : Done) : Type 0 where
  answer : c.answer ≡ d.answer
  bytes : c.after ≡ after c.state d
  taken : get_or c.done 0 0 ≡ d.taken
  count_first : get_or c.done 1 0 ≡ length d.first
  count_second : get_or c.done 2 0 ≡ length d.second
  one : c.first ≡ fronted c.one d.first
  two : c.second ≡ fronted c.two d.second

boards_follow : (c : Wire) (d : Done) → Boards c.state d c.one c.two c.after c.first c.second c.done c.answer → Follows c d
boards_follow c d p = record {
  answer = p.answer;
  bytes = p.bytes;
  taken = ap (λ (xs : List ℕ). get_or xs 0 0) p.told;
  count_first = ap (λ (xs : List ℕ). get_or xs 1 0) p.told;
  count_second = ap (λ (xs : List ℕ). get_or xs 2 0) p.told;
  one = p.one;
  two = p.two;
}

-- What follows an outcome is that outcome as a box's result, where the bytes after it spell its state.
seen_follows : (c : Wire) (d : Done) → Follows c d → state_of c.after ≡ d.state → seen c ≡ resulting d c.one c.two
seen_follows c d f e = rw (f.answer, f.taken, f.count_first, f.count_second, f.one, f.two, e)

module _ (c : Wire) (p : Promised c) where
  abbrev t : Stream
  t = c.stream

  abbrev s : State
  s = state_of c.state

  abbrev a : ℕ
  a = length c.one

  abbrev b : ℕ
  b = length c.two

  -- bytes that spell a sound state ask for our box's own call
  module _ (h : spells_sound c.state ≡ true) where
    abbrev d : Done
    d = call t s c.bytes a b

    asks_call : asked t c.state c.bytes a b ≡ d
    asks_call = rw (and_parts (spells c.state) (sound s) h).0

    follows : Follows c d
    follows = rw asks_call at (boards_follow c _ p)

    ours_ended : Ended t s c.bytes c.one c.two (ours t s c.bytes c.one c.two)
    ours_ended = ours_every_call t s c.bytes c.one c.two

    stays_sound : sound d.state ≡ true
    stays_sound = rw ours_ended.state (sound_run s (events t ours_ended.taken) (and_parts (spells c.state) (sound s) h).1)

    after_spelt : c.after ≡ spelt d.state
    after_spelt = follows.bytes ∙ rw h

    seen_ours : seen c ≡ ours t s c.bytes c.one c.two
    seen_ours = seen_follows c d follows (ap state_of after_spelt ∙ (spelt_back d.state stays_sound).1)

    sound_after : spells_sound c.after ≡ true
    sound_after =
        let e = spelt_back d.state stays_sound in
        rw (after_spelt, e.0, e.1) stays_sound

  -- any others are answered 3
  module _ (h : spells_sound c.state ≡ false) where
    refused_follows : Follows c (stopped 3 s)
    refused_follows = rw (three t c.state c.bytes a b h) at (boards_follow c _ p)

    after_kept : c.after ≡ c.state
    after_kept = refused_follows.bytes ∙ rw h

  pub one_call : OneCall c
  one_call = record {
    ended = λ h. rw (seen_ours h) (ours_ended h);
    spelt = sound_after;
    refused = λ h. seen_follows c (stopped 3 s) (refused_follows h) (ap state_of (after_kept h));
    kept = after_kept;
  }
