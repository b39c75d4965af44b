-- What the motor hears of the items, and what the host is told of it.
use Rattle.std.specs.Prelude.{ℕ, ◌≡◌, Bool, cond, not, ◌&&◌, List, [], ◌∷◌, ◌++◌, eqb, ltb}
use Rattle.std.specs.Int.{from_bool}
use Rattle.message.specs.Message.{message}
use Rattle.motor.specs.Motor.{hearing, hearing_all, is_on}
use Rattle.sender.specs.Item.{wanted_by}
use Rattle.sender.specs.Run.{asks_next}
use Rattle.step.specs.Names.{Settings, Calling, Connection, Asks, Wanted, Motor, State, Heard}

-- ports 1 to 3 have a motor, port 4 has none (a mode without a port has 0, and asks for nothing); while 53 is 0 nothing is heard
unfoldable pub listens : Calling → Connection → Bool
listens k c = not (eqb k.power 0) && ltb c.port 4

-- what bytes ask for, one after the other
abbrev pub asked_by : Settings → Asks → List ℕ → List Wanted
asked_by o asks [] = []
asked_by o asks (b ∷ bs) = wanted_by o asks b ++ asked_by o (asks_next o asks b) bs

-- each item's code, before option 72
abbrev pub codes_asked : List Wanted → List ℕ
codes_asked [] = []
codes_asked (w ∷ ws) = w.code ∷ codes_asked ws

-- 1 on, 0 off
abbrev pub powered : Motor → ℕ
powered m = from_bool (is_on m.run)

-- a change sends `-.TC,20,2,port,0` or 1
abbrev pub change : ℕ → ℕ → ℕ → List ℕ
change port before after = cond (eqb before after) [] (message 20 (port ∷ after ∷ []))

-- the changes that codes make, in their order
abbrev pub changes : Calling → ℕ → Motor → List ℕ → List ℕ
changes k port m [] = []
changes k port m (c ∷ cs) = change port (powered m) (powered (hearing k m c)) ++ changes k port (hearing k m c) cs

-- the motor after items
unfoldable pub motor_after : State → List Wanted → Motor
motor_after s ws = cond (listens s.calling s.connection) (hearing_all s.calling s.motor (codes_asked ws)) s.motor

-- what the host is told of them
unfoldable pub told_of : State → List Wanted → List ℕ
told_of s ws = cond (listens s.calling s.connection) (changes s.calling s.connection.port s.motor (codes_asked ws)) []

-- what the host is told of two items, by whether the motor was on before them, between them and after them
abbrev pub tells : Heard → List ℕ
tells h = change h.port h.was h.between ++ change h.port h.between h.after

-- one byte's items heard; that the numbers of what is told have one digit each is in the type
pub record Hears (s : State) (ws : List Wanted) (h : Heard) : Type 0 where
  pub motor : h.motor ≡ motor_after s ws
  pub tells : tells h ≡ told_of s ws
