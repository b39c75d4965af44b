-- `judgement::Line::standings` meets its contract: each call gives the standing of one place.
use Rattle.std.proofs.Common.{◌≡◌, ◌<◌, ℕ, zero, suc, ◌+◌, List, [], ◌∷◌, length, get_or, refl, arith, rules, add-zero, zero-add}
use Rattle.std.specs.Array.{MapsFrom}
use Rattle.std.specs.Fn.{Mut, Called}
use Rattle.judgement.specs.Line.{standing, standings}
use Rattle.judgement.proofs.Line.standings.Goals as goal

each : {F : Type 0} (g : Mut F (ℕ × Unit {0}) ℕ) (s : ℕ) (h : F) → ((x y : ℕ) (q : F) → Called g h (x, tt) y q → (y ≡ standing s x) × (q ≡ h)) → (xs ys : List ℕ) (n i : ℕ) (f : F) → f ≡ h → MapsFrom g f xs ys i n → (k : ℕ) → k < n → get_or ys (i + k) 0 ≡ standing s (get_or xs (i + k) 0)
each g s h step xs ys zero i f e m k l = absurd (omega arith)
each g s h step xs ys (suc n) i f e m zero l =
    let r = step m.1 m.2 m.0 (rw e at m.5) in
    rw (add-zero i, m.4.1 0, m.3.1 0) r.0
each g s h step xs ys (suc n) i f e m (suc k) l =
    let r = step m.1 m.2 m.0 (rw e at m.5) in
    let next : i + 1 + k ≡ i + suc k = omega arith in
    rw next at (each g s h step xs ys n (i + 1) m.0 r.1 m.6 k (omega arith))

all : (s : ℕ) (ys xs : List ℕ) → length ys ≡ length xs → ((k : ℕ) → k < length xs → get_or ys k 0 ≡ standing s (get_or xs k 0)) → ys ≡ standings s xs
all s [] [] e h = refl
all s [] (x ∷ xs) e h = absurd (omega (arith, e))
all s (y ∷ ys) [] e h = absurd (omega (arith, e))
all s (y ∷ ys) (x ∷ xs) e h =
    let rest = all s ys xs (omega (arith, e)) (λ k l. h (suc k) (omega arith)) in
    rw (rest, h 0 (omega arith))

pub returns : goal.returns
returns c =
    let line = c.args.self.now in
    let h = c.map.ensures.items in
    let size : length line.stand ≡ 256 = search rules in
    let long : length c.map.result ≡ 256 = h.long in
    all line.strays c.map.result line.stand (omega (arith, long, size)) (λ k l. rw zero-add at (each _ line.strays _ (λ x y q f. search rules) line.stand c.map.result 256 0 _ refl h.each k (omega (arith, l, size))))
