-- A session of four calls for C, byte by byte: the log sheet's example in three host calls, cut inside the text, the second of which
-- stops for want of room; and a TU call that mode 1 drops.
use Rattle.std.specs.Prelude.{ℕ, List, [], ◌∷◌, ◌++◌, replicate}
use Rattle.demands.specs.Traces.{mode1}
use Rattle.onboard.specs.Names.{Host, Tu}
use Rattle.onboard.specs.OneCall.{Wire}

-- strings 91 to 95 with factory settings, each lowest byte first: 91 and 93 are 77,582,176,388
abbrev strings : List ℕ
strings =
    132 ∷ 16 ∷ 66 ∷ 16 ∷ 18 ∷ 0 ∷ 0 ∷ 0
    ∷ 130 ∷ 49 ∷ 198 ∷ 0 ∷ 0 ∷ 0 ∷ 0 ∷ 0
    ∷ 132 ∷ 16 ∷ 66 ∷ 16 ∷ 18 ∷ 0 ∷ 0 ∷ 0
    ∷ 16 ∷ 86 ∷ 135 ∷ 25 ∷ 3 ∷ 0 ∷ 0 ∷ 0
    ∷ 209 ∷ 69 ∷ 7 ∷ 0 ∷ 0 ∷ 0 ∷ 0 ∷ 0
    ∷ []

-- the state's bytes with factory settings (string 90 is 33,523,976) and nothing held: a mode, port and speed, and the case on record
abbrev bytes : ℕ → ℕ → ℕ → ℕ → List ℕ
bytes mode port speed case =
    0 ∷ 72 ∷ 0 ∷ 0 ∷ 0 ∷ 0 ∷ 8 ∷ 137 ∷ 255 ∷ 1 ∷ 0 ∷ 0 ∷ 0 ∷ 0 ∷ mode ∷ port ∷ speed ∷ case ∷ 0 ∷ 0 ∷ 0 ∷ 1 ∷ 1 ∷ replicate 41 0 ++ (strings ++ replicate 24 0)

-- CR LF `-.TC,1,2,1,60` CR LF
abbrev connected : List ℕ
connected = 13 ∷ 10 ∷ 45 ∷ 46 ∷ 84 ∷ 67 ∷ 44 ∷ 49 ∷ 44 ∷ 50 ∷ 44 ∷ 49 ∷ 44 ∷ 54 ∷ 48 ∷ 13 ∷ 10 ∷ []

-- `/.TW,1,2,1,60`, CR, `TT`
abbrev pub opened : Wire
opened = record {
  stream = Host;
  state = bytes 11 0 0 0;
  bytes = mode1 ++ 84 ∷ 84 ∷ [];
  one = replicate 20 0;
  two = replicate 20 0;
  answer = 0;
  after = bytes 1 1 60 1;
  done = 16 ∷ 3 ∷ 17 ∷ [];
  first = 31 ∷ 16 ∷ 16 ∷ replicate 17 0;
  second = connected ++ replicate 3 0;
}

-- text after `TT`, with two places for codes and none for answers: the bytes, the answer, the case on record after it, `done` and the codes
abbrev going : List ℕ → ℕ → ℕ → List ℕ → List ℕ → Wire
going text answer case done codes = record {
  stream = Host;
  state = bytes 1 1 60 1;
  bytes = text;
  one = 0 ∷ 0 ∷ [];
  two = [];
  answer = answer;
  after = bytes 1 1 60 case;
  done = done;
  first = codes;
  second = [];
}

-- `Y1`, of which the figure does not fit
abbrev pub short : Wire
short = going (89 ∷ 49 ∷ []) 1 1 (1 ∷ 1 ∷ 0 ∷ []) (21 ∷ 0 ∷ [])

-- `1` again
abbrev pub again : Wire
again = going (49 ∷ []) 0 2 (1 ∷ 2 ∷ 0 ∷ []) (27 ∷ 23 ∷ [])

-- a code from the TU
abbrev pub dropped : Wire
dropped = record {
  stream = Tu;
  state = bytes 1 1 60 2;
  bytes = 3 ∷ [];
  one = 0 ∷ [];
  two = [];
  answer = 0;
  after = bytes 1 1 60 2;
  done = 1 ∷ 0 ∷ 0 ∷ [];
  first = 0 ∷ [];
  second = [];
}

abbrev pub calls : List Wire
calls = opened ∷ short ∷ again ∷ dropped ∷ []
