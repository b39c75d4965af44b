-- How often a place is struck, by the codes of one line of the paper, and how it stands by that.
use Rattle.std.specs.Prelude.{Option, Some, None, ℕ, ◌+◌, ◌≡◌, false, cond, List, [], ◌∷◌, eqb}
use Rattle.code.specs.Kinds.{kind_of}
use Rattle.judgement.specs.Names.{Verdict, Watch, Line, Page, Spot, At, From}
use Rattle.judgement.specs.Watch.{watch}
use Rattle.judgement.specs.Verdict.{number_of, lands, own, strike_of}
use Rattle.judgement.specs.Line.{stand_after, strike}
use Rattle.judgement.specs.Page.{feeds, page_after, judgement}

-- the line after codes none of which feeds
abbrev pub line_of : Watch → Line → List ℕ → Line
line_of w l [] = l
line_of w l (c ∷ cs) = line_of (watch w c) (strike l (strike_of w c)) cs

abbrev pub lands_at : ℕ → Option Spot → ℕ
lands_at n None = 0
lands_at n (Some (At m)) = cond (eqb m n) 1 0
lands_at n (Some (From m)) = 0

-- how many of the codes are struck at a place
abbrev pub struck_at : ℕ → Watch → List ℕ → ℕ
struck_at n w [] = 0
struck_at n w (c ∷ cs) = lands_at n (lands w (kind_of c)) + struck_at n (watch w c) cs

-- how a place stands after a code, and after many
abbrev pub stand_at : ℕ → Option Spot → ℕ → Verdict → ℕ
stand_at n None was v = was
stand_at n (Some (At m)) was v = cond (eqb m n) (stand_after was v) was
stand_at n (Some (From m)) was v = was

abbrev pub stands_at : ℕ → Watch → ℕ → List ℕ → ℕ
stands_at n w was [] = was
stands_at n w was (c ∷ cs) = stands_at n (watch w c) (stand_at n (lands w (kind_of c)) was (own w (kind_of c))) cs

-- how many of the codes are judged so, by the line as it stands in the end
abbrev pub judged : ℕ → Watch → Line → List ℕ → ℕ
judged v w l [] = 0
judged v w l (c ∷ cs) = cond (eqb (number_of (judgement w l c).verdict) v) 1 0 + judged v (watch w c) l cs

-- the page and what is known after many codes
abbrev pub page_after_all : Page → List ℕ → Page
page_after_all s [] = s
page_after_all s (c ∷ cs) = page_after_all (page_after s c) cs

abbrev pub watches : Watch → List ℕ → Watch
watches w [] = w
watches w (c ∷ cs) = watches (watch w c) cs

-- no line feed among the codes
abbrev pub NoFeed : List ℕ → Type 0
NoFeed [] = Unit
NoFeed (c ∷ cs) = (feeds c ≡ false) × NoFeed cs
