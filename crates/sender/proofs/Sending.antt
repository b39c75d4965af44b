-- The loop over bytes that go out: what is reached after some of them, and one turn more.
-- Assumes nothing.
use Prim.Native.Nat.{ℕ, suc, ◌+◌, ◌*◌, ◌-◌, ◌≤◌, ◌<◌}
use mathlib.Core.Path.{◌≡◌, refl, ap, ◌∙◌}
use mathlib.Core.Bool.{Bool, true, false, cond}
use lib.Dec.{leb}
use mathlib.Core.List.{List, [], ◌∷◌, ◌++◌, append_assoc}
use native.Mathlib.Omega.{arith}
use native.Mathlib.Numerals.{add-one}
use borrow.Rule.Slice.PartMut.{put_mid, mid_of}
use lib.ListN.{length, get_or, drop}
use lib.Seq.{drop-cons}
use borrow.Author.Tests.{le-leb}
use Rattle.laws.specs.Written.{Filled}
use Rattle.laws.proofs.Filled.{filled_on}
use Rattle.sender.specs.Names.{Settings, Sender, Asks, Text, Until, Never, Noted}
use Rattle.sender.specs.Item.{items, after_items, converted, wanted_by, wanted_text}
use Rattle.sender.specs.Run.{asks_next, stops_at, Run, no_run, run_on, most, run_of, PutsItems}
use Rattle.sender.proofs.Append.{items_append, after_append}
use Rattle.sender.proofs.Few.{byte_most}

-- n bytes sent as p, before the rest
abbrev before : ℕ → List ℕ → Run → Run
before n p d = record { sender = d.sender; asks = d.asks; taken = n + d.taken; codes = p ++ d.codes }

-- a byte more before the rest
moved : (n : ℕ) (p cs : List ℕ) (d : Run) → before n p (run_on cs d) ≡ before (n + 1) (p ++ cs) d
moved n p cs d =
    let u : n + suc d.taken ≡ n + 1 + d.taken = omega arith in
    rw (u, append_assoc p cs d.codes)

-- where the loop is: n bytes are sent as p, and the rest is still to come
pub record Sending (o : Settings) (start : Sender) (first : Asks) (until : Until) (bytes old : List ℕ) (s : Sender) (asks : Asks) (n : ℕ) (now : List ℕ) (k : ℕ) : Type 0 where
  pub p : List ℕ
  pub within : n ≤ length bytes
  pub places : Filled old now p k
  pub rest : run_of o start first until bytes (length old) ≡ before n p (run_of o s asks until (drop n bytes) (length old - k))

-- one byte more
module _ (o : Settings) (start : Sender) (first : Asks) (until : Until) (bytes old : List ℕ) (s : Sender) (asks : Asks) (n : ℕ) (now : List ℕ) (k : ℕ)
    (e : Sending o start first until bytes old s asks n now k) (lt : n < length bytes) where
  -- the next byte's codes
  abbrev cs : List ℕ
  cs = items o s (wanted_by o asks (get_or bytes n 0))

  pub sends_on : stops_at until (get_or bytes n 0) ≡ false → leb most (length now - k) ≡ true → (ys : List ℕ) (x : Noted Sender)
      → PutsItems o s (wanted_by o asks (get_or bytes n 0)) (mid_of k (length now - k) now) ys x
      → Sending o start first until bytes old x.held (asks_next o asks (get_or bytes n 0)) (n + 1) (put_mid k (length now - k) now ys) (k + x.count)
  sends_on z h ys x f =
      let b = get_or bytes n 0 in
      let ws = wanted_by o asks b in
      let a = length old - k in
      let u : leb most a ≡ true = rw e.places.same_length at h in
      let v : a - length cs ≡ length old - (k + x.count) = omega (arith, f.places.count) in
      let turn : run_of o s asks until (drop n bytes) a ≡ run_on cs (run_of o (after_items o s ws) (asks_next o asks b) until (drop (n + 1) bytes) (a - length cs)) = rw (drop-cons bytes n 0 lt, z, u, add-one) in
      record {
        p = e.p ++ cs;
        within = omega arith;
        places = filled_on old now e.p cs ys k x.count e.places f.places;
        rest = e.rest ∙ ap (before n e.p) turn ∙ moved n e.p cs _ ∙ rw (f.sender, v);
      }

-- no more bytes than there are
pub run_within : (o : Settings) (s : Sender) (asks : Asks) (until : Until) (bs : List ℕ) (room : ℕ) → (run_of o s asks until bs room).taken ≤ length bs
run_within o s asks until [] room = omega arith
run_within o s asks until (b ∷ bs) room = go (stops_at until b) (leb most room) (run_within o (after_items o s (wanted_by o asks b)) (asks_next o asks b) until bs (room - length (items o s (wanted_by o asks b))))
  where
    go : (halts fits : Bool)
        → (let ws = wanted_by o asks b in (run_of o (after_items o s ws) (asks_next o asks b) until bs (room - length (items o s ws))).taken ≤ length bs)
        → (let ws = wanted_by o asks b in (cond halts (no_run s asks) (cond fits (run_on (items o s ws) (run_of o (after_items o s ws) (asks_next o asks b) until bs (room - length (items o s ws)))) (no_run s asks))).taken) ≤ length (b ∷ bs)
    go true fits h = omega arith
    go false true h = omega (arith, h)
    go false false h = omega arith

-- where each byte's most has room, all of a text goes out
pub text_run : (o : Settings) (s : Sender) (bs : List ℕ) (room : ℕ) → most * length bs ≤ room
    → run_of o s Text Never bs room ≡ record { sender = after_items o s (wanted_text o bs); asks = Text; taken = length bs; codes = items o s (wanted_text o bs) }
text_run o s [] room h = refl
text_run o s (b ∷ bs) room h =
    let ws = wanted_by o Text b in
    let n = byte_most o s (converted o Text b) in
    let u : leb most room ≡ true = le-leb most room (omega (arith, h)) in
    let v : most * length bs ≤ room - length (items o s ws) = omega (arith, h, n) in
    rw (u, text_run o (after_items o s ws) bs (room - length (items o s ws)) v, items_append o s ws (wanted_text o bs), after_append o s ws (wanted_text o bs))

-- no bytes, no codes
pub run_none : (o : Settings) (s : Sender) (asks : Asks) (until : Until) (bs : List ℕ) (room : ℕ) → (run_of o s asks until bs room).taken ≡ 0 → (run_of o s asks until bs room).codes ≡ []
run_none o s asks until [] room e = refl
run_none o s asks until (b ∷ bs) room e = go (stops_at until b) (leb most room) e
  where
    go : (halts fits : Bool)
        → let ws = wanted_by o asks b in
        let d = cond halts (no_run s asks) (cond fits (run_on (items o s ws) (run_of o (after_items o s ws) (asks_next o asks b) until bs (room - length (items o s ws)))) (no_run s asks)) in d.taken ≡ 0 → d.codes ≡ []
    go true fits e = refl
    go false true e = absurd (omega (arith, e))
    go false false e = refl
