-- The arguments: `stop=N`, `place=N`, `place=unknown`, `case=letters`, and so on.
use Rattle.std.specs.Prelude.{ℕ, ◌+◌, ◌*◌, cond, List, [], ◌∷◌, ltb, length, take, drop, bytes_eq, codes, Option, Some, None, option_map, option_and_then}
use Rattle.std.specs.Option.{option_or}
use Rattle.words.specs.Names.{Setting}
use Rattle.words.specs.Names.setting
use Rattle.words.specs.Words.{value}

-- a decimal number up to 255
abbrev pub below : ℕ → Option ℕ
below m = cond (ltb m 256) (Some m) None

-- with one digit more
abbrev pub pushed : ℕ → ℕ → Option ℕ
pushed n b = option_and_then (λ d. below (n * 10 + d)) (value b)

abbrev pub number : ℕ → List ℕ → Option ℕ
number n [] = Some n
number n (b ∷ bs) = option_and_then (λ m. number m bs) (pushed n b)

-- the number after a name, of one digit or more
abbrev pub number_after : List ℕ → List ℕ → Option ℕ
number_after s name = cond (ltb (length name) (length s)) (cond (bytes_eq (take (length name) s) name) (number 0 (drop (length name) s)) None) None

-- `stop=`, or else `place=`
abbrev pub numbered : List ℕ → Option Setting
numbered s = option_or (option_map setting.Stop (number_after s (codes "stop="))) (option_map setting.Place (number_after s (codes "place=")))

abbrev pub setting_of : List ℕ → Option Setting
setting_of s =
    cond (bytes_eq s (codes "case=letters")) (Some setting.Letters)
    (cond (bytes_eq s (codes "case=figures")) (Some setting.Figures)
    (cond (bytes_eq s (codes "case=unknown")) (Some setting.CaseUnknown)
    (cond (bytes_eq s (codes "place=unknown")) (Some setting.PlaceUnknown)
    (cond (bytes_eq s (codes "space=unshifts")) (Some setting.SpaceUnshifts)
    (cond (bytes_eq s (codes "space=keeps")) (Some setting.SpaceKeeps)
    (cond (bytes_eq s (codes "return=unshifts")) (Some setting.ReturnUnshifts)
    (cond (bytes_eq s (codes "return=keeps")) (Some setting.ReturnKeeps)
    (numbered s))))))))
