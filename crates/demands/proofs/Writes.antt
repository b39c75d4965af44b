-- A command writes a connection, and forgets what was heard, exactly by its id: each row of the table is held against the list of ids.
-- Assumes nothing.
use Prim.Native.Nat.{ℕ}
use mathlib.Core.Path.{◌≡◌, refl, ap, sym, ◌∙◌}
use mathlib.Core.Bool.{Bool, true, false, cond, ◌&&◌, ◌||◌, not, false≢true}
use mathlib.Core.List.{List, [], ◌∷◌}
use borrow.Author.Tests.{eqb-true, not-true}
use lib.Dec.{eqb}
use lib.ListN.{get_or, drop}
use Rattle.std.specs.Prelude.{Result, Ok, Err, is_ok}
use Rattle.std.proofs.lemmas.Bool.{and_parts}
use Rattle.settings.specs.declared.Home.{Home}
use Rattle.settings.specs.declared.Home.TheVariants.{Version, Linked, Unlinked, Value, String, Power, Signal, Factory, Nowhere}
use Rattle.settings.specs.declared.Row.{Row}
use Rattle.settings.specs.declared.Fault.{Fault}
use Rattle.settings.specs.declared.Stored.{Stored}
use Rattle.settings.specs.Table.{options, rows_from, seek, row, is_connection}
use Rattle.settings.specs.Command.{kept, store, obey, answered, wrong, commanded}
use Rattle.demands.specs.Names.{Verb, Write, Read, Other, Settings, Calling, Connection, State}
use Rattle.demands.specs.Writes.{among, is_write, writes_in, connection_ids, forgetting_ids}

-- going down the rows, those that a test finds are these ids, in the rows' order
agrees : (Home → Bool) → List Row → List ℕ → Bool
agrees f [] [] = true
agrees f [] (x ∷ ids) = false
agrees f (r ∷ rs) [] = not (f r.home) && agrees f rs []
agrees f (r ∷ rs) (x ∷ ids) = cond (f r.home) (eqb x r.number && agrees f rs ids) (not (among (x ∷ ids) r.number) && agrees f rs (x ∷ ids))

-- so the test of the row that is sought is whether the id is one of them
sought : (f : Home → Bool) → f Nowhere ≡ false → (rs : List Row) (ids : List ℕ) → agrees f rs ids ≡ true → (n : ℕ) → f (seek rs n).home ≡ among ids n
unfolding agrees
sought f u [] [] a n = u
sought f u [] (x ∷ ids) a n = absurd (false≢true a)
sought f u (r ∷ rs) [] a n =
    let p = and_parts (not (f r.home)) (agrees f rs []) a in
    go (eqb n r.number) (not-true (f r.home) p.0) (sought f u rs [] p.1 n)
  where
    go : (b : Bool) → f r.home ≡ false → f (seek rs n).home ≡ false → f (cond b r (seek rs n)).home ≡ false
    go true here rest = here
    go false here rest = rest
sought f u (r ∷ rs) (x ∷ ids) a n = go (f r.home) refl a (λ h. sought f u rs ids h n) (λ h. sought f u rs (x ∷ ids) h n)
  where
    -- a row that the test finds is the next id
    found : (b : Bool) → f r.home ≡ true → f (seek rs n).home ≡ among ids n → f (cond b r (seek rs n)).home ≡ (b || among ids n)
    found true here rest = here
    found false here rest = rest

    -- and any other row is none of them
    other : (b : Bool) → eqb n r.number ≡ b → f r.home ≡ false → among (x ∷ ids) r.number ≡ false → f (seek rs n).home ≡ among (x ∷ ids) n → f (cond b r (seek rs n)).home ≡ among (x ∷ ids) n
    other true e here none rest = here ∙ sym (ap (among (x ∷ ids)) (eqb-true n r.number e) ∙ none)
    other false e here none rest = rest

    go : (t : Bool) → f r.home ≡ t → cond t (eqb x r.number && agrees f rs ids) (not (among (x ∷ ids) r.number) && agrees f rs (x ∷ ids)) ≡ true
        → (agrees f rs ids ≡ true → f (seek rs n).home ≡ among ids n) → (agrees f rs (x ∷ ids) ≡ true → f (seek rs n).home ≡ among (x ∷ ids) n) → f (cond (eqb n r.number) r (seek rs n)).home ≡ among (x ∷ ids) n
    go true e h after same =
        let p = and_parts (eqb x r.number) (agrees f rs ids) h in
        found (eqb n r.number) e (after p.1) ∙ ap (λ (m : ℕ). eqb n m || among ids n) (sym (eqb-true x r.number p.0))
    go false e h after same =
        let p = and_parts (not (among (x ∷ ids) r.number)) (agrees f rs (x ∷ ids)) h in
        other (eqb n r.number) refl e (not-true (among (x ∷ ids) r.number) p.0) (same p.1)

-- What a command does is said by a flag that a write sets by its id's home, and that nothing else sets.
module _ (flag : Stored → Bool) (f : Home → Bool) (ids : List ℕ) (unset : (s : Settings) (k : Calling) (c : Connection) → flag (kept s k c) ≡ false) (set : (s : Settings) (k : Calling) (c : Connection) (h : Home) (n : ℕ) (ps : List ℕ) → flag (store s k c h n ps) ≡ f h) (u : f Nowhere ≡ false) (a : agrees f (rows_from 0 options) ids ≡ true) where
  by_row : (n : ℕ) → f (row n).home ≡ among ids n
  unfolding row
  by_row n = sought f u (rows_from 0 options) ids a n

  module _ (s : Settings) (k : Calling) (c : Connection) (fields : List ℕ) where
    obeyed : (v : Verb) → flag (obey s k c v (row (get_or fields 0 0)) (drop 2 fields)) ≡ (is_write v && among ids (get_or fields 0 0))
    obeyed Write = set s k c (row (get_or fields 0 0)).home (row (get_or fields 0 0)).number (drop 2 fields) ∙ by_row (get_or fields 0 0)
    obeyed Read = unset s k c
    obeyed Other = unset s k c

    judged : (v : Verb) (x : Result (Unit {0}) Fault) → flag (answered x s k c v (row (get_or fields 0 0)) fields).stored ≡ (is_ok x && (is_write v && among ids (get_or fields 0 0)))
    judged v (Ok u) = obeyed v
    judged v (Err f) = unset s k c

  flagged : (s : State) (v : Verb) (count : ℕ) (fields : List ℕ) → flag (commanded s.settings s.calling s.connection v count fields).stored ≡ writes_in ids s v count fields
  unfolding commanded
  flagged s v count fields = judged s.settings s.calling s.connection fields v (wrong s.settings s.calling s.connection v count fields)

-- a home whose writing forgets
abbrev forgets_at : Home → Bool
forgets_at Version = false
forgets_at (Linked last) = true
forgets_at Unlinked = true
forgets_at (Value place low high) = false
forgets_at String = false
forgets_at Power = true
forgets_at (Signal place) = true
forgets_at Factory = true
forgets_at Nowhere = false

connected_at : (s : Settings) (k : Calling) (c : Connection) (h : Home) (n : ℕ) (ps : List ℕ) → (store s k c h n ps).connected ≡ is_connection h
connected_at s k c Version n ps = refl
connected_at s k c (Linked last) n ps = refl
connected_at s k c Unlinked n ps = refl
connected_at s k c (Value place low high) n ps = refl
connected_at s k c String n ps = refl
connected_at s k c Power n ps = refl
connected_at s k c (Signal place) n ps = refl
connected_at s k c Factory n ps = refl
connected_at s k c Nowhere n ps = refl

forgets_at_law : (s : Settings) (k : Calling) (c : Connection) (h : Home) (n : ℕ) (ps : List ℕ) → (store s k c h n ps).forgets ≡ forgets_at h
forgets_at_law s k c Version n ps = refl
forgets_at_law s k c (Linked last) n ps = refl
forgets_at_law s k c Unlinked n ps = refl
forgets_at_law s k c (Value place low high) n ps = refl
forgets_at_law s k c String n ps = refl
forgets_at_law s k c Power n ps = refl
forgets_at_law s k c (Signal place) n ps = refl
forgets_at_law s k c Factory n ps = refl
forgets_at_law s k c Nowhere n ps = refl

-- a command connects exactly if it writes one of the ids of a connection
pub connected_by : (s : State) (v : Verb) (count : ℕ) (fields : List ℕ) → (commanded s.settings s.calling s.connection v count fields).stored.connected ≡ writes_in connection_ids s v count fields
unfolding agrees
connected_by = flagged (λ t. t.connected) is_connection connection_ids (λ s k c. refl) connected_at refl refl

-- and the motor forgets exactly if it writes one of those, 53, a string of 91 to 95, or 250
pub forgets_by : (s : State) (v : Verb) (count : ℕ) (fields : List ℕ) → (commanded s.settings s.calling s.connection v count fields).stored.forgets ≡ writes_in forgetting_ids s v count fields
unfolding agrees
forgets_by = flagged (λ t. t.forgets) forgets_at forgetting_ids (λ s k c. refl) forgets_at_law refl refl
