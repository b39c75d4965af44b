-- What is known of the printer and the sender stays true from code to code, wherever they started; so what a judgement says
-- was meant and struck was, a character that is kept is the one that was meant, and one is turned only because the printer was
-- in letters where figures were meant.
-- Assumes nothing.
use Prim.Native.Nat.{ℕ, ◌+◌, ◌≤◌, min}
use mathlib.Core.Path.{◌≡◌, refl, sym, ap, ◌∙◌}
use mathlib.Core.Bool.{Bool, true, false, cond, ◌||◌, true≢false}
use native.Mathlib.Omega.{arith}
use lib.Dec.{eqb, ltb}
use lib.ListN.{get_or}
use borrow.Author.Tests.{ltb-true, ltb-false, eq-eqb}
use Rattle.std.specs.Prelude.{Option, Some, None}
use Rattle.code.specs.Rows.{row_at}
use Rattle.code.specs.Kinds.{kind_alike, kind_of, strikes, dependent}
use Rattle.code.proofs.Laws.{alike}
use Rattle.printer.specs.Printer.{unshifted, hear_kind, advanced, from}
use Rattle.judgement.specs.Names.{Case, Letters, Figures, Kind, Still, Space, Return, Shift, Char, Printer, Spot, At, From, Watch, Verdict, Line}
use Rattle.judgement.specs.Names.verdict
use Rattle.judgement.specs.Stop.{clip, hear_stop}
use Rattle.judgement.specs.Watch.{shown_by, within, moved, blurred, spot_char, watch_kind, watch}
use Rattle.judgement.specs.Verdict.{own_char, own, lands, sign_as, meant_by, struck_by}
use Rattle.judgement.specs.Line.{final}
use Rattle.judgement.specs.Page.{start, judgement}
use Rattle.judgement.specs.Fits.{FitsCase, FitsSpot, FitsSign, send_case, Fits, Claims}

-- The place.

cut : (stop n m : ℕ) → min stop n ≤ m → m ≤ stop → FitsSpot (within stop (From n)) m
cut stop n m h w = go (ltb n stop) refl
  where
    go : (b : Bool) → ltb n stop ≡ b → FitsSpot (cond b (From n) (At stop)) m
    go true e = omega (arith, ltb-true n stop e)
    go false e = omega (arith, ltb-false n stop e)

moves_on : (stop : ℕ) (s : Spot) (m : ℕ) → FitsSpot s m → FitsSpot (moved stop s) (min stop (m + 1))
moves_on stop (At n) m h = omega arith
moves_on stop (From n) m h = cut stop (n + 1) (min stop (m + 1)) (omega arith) (omega arith)

stays : (stop : ℕ) (s : Spot) (m : ℕ) → FitsSpot s m → m ≤ stop → FitsSpot s (min stop m)
stays stop (At n) m h w = omega arith
stays stop (From n) m h w = omega arith

may_move : (stop : ℕ) (s : Spot) (m : ℕ) (b : Bool) → FitsSpot s m → m ≤ stop → FitsSpot (blurred stop s) (min stop (advanced b m))
may_move stop (At n) m true h w = cut stop n (min stop (m + 1)) (omega arith) (omega arith)
may_move stop (At n) m false h w = cut stop n (min stop m) (omega arith) (omega arith)
may_move stop (From n) m true h w = cut stop n (min stop (m + 1)) (omega arith) (omega arith)
may_move stop (From n) m false h w = cut stop n (min stop m) (omega arith) (omega arith)

spot_char_law : (stop : ℕ) (s : Spot) (m : ℕ) (bell : Bool) (k : Option Case) (case : Case) → FitsCase k case → FitsSpot s m → m ≤ stop → FitsSpot (spot_char bell k stop s) (min stop (advanced (strikes bell case) m))
spot_char_law stop s m false k case f h w = moves_on stop s m h
spot_char_law stop s m true None case f h w = may_move stop s m (strikes true case) h w
spot_char_law stop s m true (Some Letters) case f h w = rw (← f) (moves_on stop s m h)
spot_char_law stop s m true (Some Figures) case f h w = rw (← f) (stays stop s m h w)

-- The printer's case.

falls : (own fell : Bool) (meant : Option Case) (case : Case) → FitsCase (shown_by fell meant) case → FitsCase (shown_by (own || fell) meant) (unshifted own case)
falls true fell meant case f = refl
falls false fell meant case f = f

-- One code.

fits_kind : {w : Watch} {p : Printer} {s : Case} (k : Kind) → Fits w p s → Fits (watch_kind w k) (clip w.stop (hear_kind p k)) (send_case s k)
fits_kind {w} {p} {s} Still f = record { meant = f.meant; shown = f.shown; spot = stays w.stop w.spot p.count f.spot f.short; short = omega arith; space = f.space; return = f.return }
fits_kind {w} {p} {s} Space f =
    record {
      meant = f.meant;
      shown = rw (← f.space) (falls w.onspace w.fell w.meant p.case f.shown);
      spot = moves_on w.stop w.spot p.count f.spot;
      short = omega arith;
      space = f.space;
      return = f.return;
    }
fits_kind {w} {p} {s} Return f =
    record {
      meant = f.meant;
      shown = rw (← f.return) (falls w.onreturn w.fell w.meant p.case f.shown);
      spot = omega arith;
      short = omega arith;
      space = f.space;
      return = f.return;
    }
fits_kind {w} {p} {s} (Shift to) f = record { meant = refl; shown = refl; spot = stays w.stop w.spot p.count f.spot f.short; short = omega arith; space = f.space; return = f.return }
fits_kind {w} {p} {s} (Char bell) f =
    record {
      meant = f.meant;
      shown = f.shown;
      spot = spot_char_law w.stop w.spot p.count bell (shown_by w.fell w.meant) p.case f.shown f.spot f.short;
      short = omega arith;
      space = f.space;
      return = f.return;
    }

-- what is known stays true
pub fits : {w : Watch} {p : Printer} {s : Case} (c : ℕ) → Fits w p s → Fits (watch w c) (hear_stop w.stop p c) (send_case s (kind_of c))
fits c f = fits_kind (kind_of c) f

-- The judgement.

sign : (k : Option Case) (case : Case) (c : ℕ) → FitsCase k case → FitsSign (sign_as k (kind_of c) c) (row_at case c)
sign k case c f = go (kind_of c) refl k f
  where
    go : (kind : Kind) → kind_of c ≡ kind → (k : Option Case) → FitsCase k case → FitsSign (sign_as k kind c) (row_at case c)
    go Still e k f = alike c Letters case (ap dependent e)
    go Space e k f = alike c Letters case (ap dependent e)
    go Return e k f = alike c Letters case (ap dependent e)
    go (Shift to) e k f = alike c Letters case (ap dependent e)
    go (Char bell) e None f = tt
    go (Char bell) e (Some a) f = rw f

-- what is said to be struck is what the printer strikes, and what is said to be meant is what the sender meant
pub struck_true : {w : Watch} {p : Printer} {s : Case} (c : ℕ) → Fits w p s → FitsSign (struck_by w c) (row_at p.case c)
struck_true {w} {p} {s} c f = sign (shown_by w.fell w.meant) p.case c f.shown

pub meant_true : {w : Watch} {p : Printer} {s : Case} (c : ℕ) → Fits w p s → FitsSign (meant_by w c) (row_at s c)
meant_true {w} {p} {s} c f = sign w.meant s c f.meant

own_char_law : (bell fell : Bool) (meant : Option Case) (p s : Case) → FitsCase meant s → FitsCase (shown_by fell meant) p → Claims (own_char bell meant fell) p s
own_char_law bell fell None p s m h = tt
own_char_law bell true (Some Letters) p s m h = sym h ∙ m
own_char_law bell false (Some Letters) p s m h = sym h ∙ m
own_char_law bell true (Some Figures) p s m h = (sym h, sym m)
own_char_law false false (Some Figures) p s m h = sym h ∙ m
own_char_law true false (Some Figures) p s m h = tt

-- kept: the printer was in the sender's case; turned: it was in letters, and figures were meant
pub own_true : {w : Watch} {p : Printer} {s : Case} (k : Kind) → Fits w p s → Claims (own w k) p.case s
own_true Still f = tt
own_true Space f = tt
own_true Return f = tt
own_true (Shift to) f = tt
own_true {w} {p} {s} (Char bell) f = own_char_law bell w.fell w.meant p.case s f.meant f.shown

final_claims : (x : Option Spot) (l : Line) (v : Verdict) (p s : Case) → Claims v p s → Claims (final l x v) p s
final_claims None l v p s h = h
final_claims (Some (At n)) l v p s h = go (eqb (get_or l.stand n 0) 3) (eqb l.strays 0)
  where
    go : (a b : Bool) → Claims (cond a verdict.Over (cond b v verdict.Unknown)) p s
    go true b = tt
    go false true = h
    go false false = tt
final_claims (Some (From n)) l v p s h = tt

-- the same of the judgement in the end, on whatever line
pub verdict_true : {w : Watch} {p : Printer} {s : Case} (l : Line) (c : ℕ) → Fits w p s → Claims (judgement w l c).verdict p.case s
verdict_true {w} {p} {s} l c f = final_claims (lands w (kind_of c)) l (own w (kind_of c)) p.case s (own_true (kind_of c) f)

-- The start.

-- what is said of the start fits every printer and sender of which it is true
pub start_fits : (k : Option Case) (spot : Spot) (stop : ℕ) (a b : Bool) (case : Case) (m : ℕ) → FitsCase k case → FitsSpot spot m → m ≤ stop → Fits (start k spot stop a b).watch (from case m a b) case
start_fits k spot stop a b case m f e h = record { meant = f; shown = f; spot = placed spot e; short = h; space = refl; return = refl }
  where
    placed : (spot : Spot) → FitsSpot spot m → FitsSpot (within stop spot) m
    placed (At n) e = omega arith
    placed (From n) e = cut stop n m (omega arith) h

-- a turned character is another one than was meant

alike_not : (x : ℕ) → dependent (kind_alike x) ≡ false
alike_not x = go (eqb x 32) (eqb x 13) (eqb x 14) (eqb x 15)
  where
    go : (p q r t : Bool) → dependent (cond p Space (cond q Return (cond r (Shift Figures) (cond t (Shift Letters) Still)))) ≡ false
    go true q r t = refl
    go false true r t = refl
    go false false true t = refl
    go false false false true = refl
    go false false false false = refl

pub turned_differs : (c : ℕ) (bell : Bool) → kind_of c ≡ Char bell → row_at Letters c ≡ row_at Figures c → ⊥
unfolding kind_of
turned_differs c bell e s = true≢false (sym (ap dependent e) ∙ rw (eq-eqb _ _ s) (alike_not (row_at Letters c)))
