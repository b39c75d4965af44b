-- Codes made in a buffer of their own: they stand at its front, and go into the lent one where they and what the host is told fit.
-- Assumes nothing.
use Prim.Native.Nat.{ℕ, ◌*◌, ◌-◌, ◌≤◌, ◌<◌}
use mathlib.Core.Path.{◌≡◌, refl, ap, ◌∙◌}
use mathlib.Core.Bool.{true, false, ◌&&◌, and-false}
use mathlib.Core.List.{List, [], ◌∷◌}
use native.Mathlib.Omega.{arith}
use native.Mathlib.Nat.{zero-add}
use borrow.Author.Tests.{le-leb, lt-leb}
use lib.Dec.{leb}
use lib.ListN.{length, take, drop}
use lib.Seq.{take-append_seam}
use Rattle.std.specs.Prelude.{Result, Ok, Err}
use Rattle.laws.specs.Written.{fronted, Filled}
use Rattle.message.specs.Made.{Put}
use Rattle.sender.specs.declared.Sent.{Sent}
use Rattle.sender.specs.Item.{items, after_items, wanted_by, converted}
use Rattle.sender.specs.Run.{asks_next, Run, most, run_of, SendsRun}
use Rattle.sender.proofs.Append.{items_append, after_append}
use Rattle.sender.proofs.Few.{byte_most}
use Rattle.step.specs.Names.{Settings, Sender, Asks, Never, State, Host, Tu, Heard, NoRoom, Taken}
use Rattle.step.specs.State.{with_sender, with_motor}
use Rattle.step.specs.Hear.{asked_by, tells, Hears}
use Rattle.step.specs.Step.{Step, sends}
use Rattle.step.specs.Byte.{Offers}

-- codes for the line and bytes for the host
abbrev putting : State → List ℕ → List ℕ → Step
putting s line host = record { state = s; line = line; host = host; tu = [] }

module _ (s : State) (line host old₁ old₂ : List ℕ) where
  -- what does not fit the line buffer
  pub line_full : length old₁ < length line → Offers Host (putting s line host) old₁ old₂ old₁ old₂ (Err (record { state = s }))
  line_full h = let e = lt-leb (length line) (length old₁) h in record { gives = rw e; one = rw e; two = rw e }

  -- or the host buffer
  pub host_full : length old₂ < length host → Offers Host (putting s line host) old₁ old₂ old₁ old₂ (Err (record { state = s }))
  host_full h =
      let e : leb (length line) (length old₁) && leb (length host) (length old₂) ≡ false = rw (lt-leb (length host) (length old₂) h) (and-false (leb (length line) (length old₁))) in
      record { gives = rw e; one = rw e; two = rw e }

  -- what fits both
  pub both_fit : (now₁ now₂ : List ℕ) (end told : ℕ) → length line ≤ length old₁ → Put old₁ 0 line now₁ end → Filled old₂ now₂ host told
      → Offers Host (putting s line host) old₁ old₂ now₁ now₂ (Ok (record { state = s; first = end; second = told }))
  both_fit now₁ now₂ end told h p f =
      let e : leb (length line) (length old₁) && leb (length host) (length old₂) ≡ true = rw (le-leb (length line) (length old₁) h, le-leb (length host) (length old₂) (omega (arith, f.count, f.room))) in
      let a : end ≡ length line = rw zero-add at p.place in
      let b : now₁ ≡ fronted old₁ line = rw zero-add at p.contents in
      record { gives = rw (e, a, f.count); one = rw e b; two = rw e f.places }

-- the buffers of a TU call are those of a host call
pub as_tu : (x : Step) (old₁ old₂ now₁ now₂ : List ℕ) (r : Result Taken NoRoom) → Offers Host x old₁ old₂ now₁ now₂ r → Offers Tu x old₁ old₂ now₁ now₂ r
as_tu x old₁ old₂ now₁ now₂ r p = record { gives = p.gives; one = p.one; two = p.two }

-- where each byte's most has room, all that bytes ask for goes out
pub asked_run : (o : Settings) (s : Sender) (asks : Asks) (bs : List ℕ) (room : ℕ) → most * length bs ≤ room
    → let d = run_of o s asks Never bs room in (d.sender ≡ after_items o s (asked_by o asks bs)) × (d.codes ≡ items o s (asked_by o asks bs))
asked_run o s asks [] room h = (refl, refl)
asked_run o s asks (b ∷ bs) room h =
    let ws = wanted_by o asks b in
    let vs = asked_by o (asks_next o asks b) bs in
    let n = byte_most o s (converted o asks b) in
    let u : leb most room ≡ true = le-leb most room (omega (arith, h)) in
    let v : most * length bs ≤ room - length (items o s ws) = omega (arith, h, n) in
    let e = asked_run o (after_items o s ws) (asks_next o asks b) bs (room - length (items o s ws)) v in
    (rw (u, e.0, after_append o s ws vs), rw (u, e.1, items_append o s ws vs))

-- the codes of a run stand at the front of the buffer that they were made in
made : (d : Run) (old now : List ℕ) (x : Sent) → SendsRun d old now x → take x.count now ≡ d.codes
made d old now x f = rw (f.places.places, f.places.count) (take-append_seam d.codes (drop (length d.codes) old))

-- bytes as they are asked for, two at most
pub asked_put : (s : State) (asks : Asks) (bs room codes : List ℕ) (x : Sent) (h : Heard) (old₁ old₂ now₁ now₂ : List ℕ) (r : Result Taken NoRoom)
    → length room ≡ 36 → length bs ≤ 2
    → SendsRun (run_of s.settings s.sender asks Never bs (length room)) room codes x
    → Hears s (asked_by s.settings asks bs) h
    → Offers Host (putting (with_motor (with_sender s x.sender) h.motor) (take x.count codes) (tells h)) old₁ old₂ now₁ now₂ r
    → Offers Host (sends s (asked_by s.settings asks bs)) old₁ old₂ now₁ now₂ r
asked_put s asks bs room codes x h old₁ old₂ now₁ now₂ r wide few f g p =
    let ws = asked_by s.settings asks bs in
    let e = asked_run s.settings s.sender asks bs (length room) (omega (arith, few, wide)) in
    let a : x.sender ≡ after_items s.settings s.sender ws = ap (λ (u : Sent). u.sender) f.gives ∙ e.0 in
    let m : take x.count codes ≡ items s.settings s.sender ws = made _ room codes x f ∙ e.1 in
    rw (a, m, g.motor, g.tells) at p
