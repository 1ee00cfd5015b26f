-- The number that a field spells, and the number cut to bounds.
use Rattle.std.specs.Prelude.{ℕ, ◌+◌, ◌-◌, ◌*◌, ℤ, pos, neg_ℤ, ◌==◌, if◌then◌else◌, List, [], ◌∷◌}
use Rattle.std.specs.Prelude.{Option, Some, None, option_map}
use Rattle.std.specs.Char.{is_ascii_digit}
use Rattle.std.specs.Int.{int_min, int_max}

-- the number that digits spell behind a number; none where a byte is no digit
abbrev pub digits_from : ℕ → List ℕ → Option ℕ
digits_from n [] = Some n
digits_from n (c ∷ cs) = if is_ascii_digit c then digits_from (10 * n + (c - 48)) cs else None

-- the number that one digit or more spells
abbrev pub magnitude_of : List ℕ → Option ℕ
magnitude_of [] = None
magnitude_of (c ∷ cs) = digits_from 0 (c ∷ cs)

-- the number of a field: a minus or none, and one digit or more
abbrev pub number_of : List ℕ → Option ℤ
number_of [] = None
number_of (c ∷ cs) =
    if c == 45 then option_map (λ n. neg_ℤ (pos n)) (magnitude_of cs)
    else option_map pos (magnitude_of (c ∷ cs))

-- a number cut to a bound on either side
abbrev pub cut_to : ℤ → ℤ → ℤ
cut_to most z = int_max (neg_ℤ most) (int_min most z)
