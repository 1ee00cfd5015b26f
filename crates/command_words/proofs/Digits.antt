-- The number that digits spell, read digit by digit.
use Rattle.std.proofs.Common.{◌≡◌, ◌∙◌, ◌+◌, ◌-◌, ◌*◌, ◌<◌, ◌&&◌, ℕ, suc, zero, Bool, true, false, refl, ap, arith, List, [], ◌∷◌, drop, length, nat_le, Option, Some, None}
use Rattle.std.specs.Prelude.{if◌then◌else◌}
use Rattle.std.specs.List.{slice_index_or}
use Rattle.std.proofs.lemmas.Bool.Decides.{nat_tests}
use Rattle.command_words.specs.LiveWords.{digits_value, number_of_word, number_within}

-- a number that is at most another
abbrev pub kept_within : ℕ → Option ℕ → Option ℕ
kept_within most None = None
kept_within most (Some number) = if nat_le number most then Some number else None

-- the number is kept so
pub number_is : (most : ℕ) (word : List ℕ) → number_within most word ≡ kept_within most (number_of_word word)
number_is most word = go (number_of_word word)
  where
    go : (o : Option ℕ) → elim o [ None ↦ None | Some number ↦ if nat_le number most then Some number else None ] ≡ kept_within most o
    go None = refl
    go (Some number) = refl

-- a number that is too large stays so
value_over : (most number : ℕ) (digits : List ℕ) → most < number → kept_within most (digits_value number digits) ≡ None
value_over most number [] over = ap (λ (b : Bool). if b then Some number else None) fails
  where
    fails : nat_le number most ≡ false
    fails = grind (arith, nat_tests)
value_over most number (digit ∷ digits) over = go (nat_le 48 digit && nat_le digit 57) (value_over most (10 * number + (digit - 48)) digits (omega arith))
  where
    go : (b : Bool) → kept_within most (digits_value (10 * number + (digit - 48)) digits) ≡ None
        → kept_within most (if b then digits_value (10 * number + (digit - 48)) digits else None) ≡ None
    go true e = e
    go false e = refl

-- also with one more digit
more_over : (most number i : ℕ) (digits : List ℕ) → i < length digits → most < 10 * number + (slice_index_or digits i 0 - 48)
    → kept_within most (digits_value number (drop i digits)) ≡ None
more_over most number i [] within over = absurd (omega arith)
more_over most number zero (digit ∷ digits) within over = go (nat_le 48 digit && nat_le digit 57) (value_over most (10 * number + (digit - 48)) digits over)
  where
    go : (b : Bool) → kept_within most (digits_value (10 * number + (digit - 48)) digits) ≡ None
        → kept_within most (if b then digits_value (10 * number + (digit - 48)) digits else None) ≡ None
    go true e = e
    go false e = refl
more_over most number (suc i) (digit ∷ digits) within over = more_over most number i digits (omega arith) over

-- a digit that makes the number too large leaves none
pub number_over : (most number i : ℕ) (word digits : List ℕ) → number_within most word ≡ kept_within most (digits_value number (drop i digits)) → i < length digits
    → most < 10 * number + (slice_index_or digits i 0 - 48) → number_within most word ≡ None
number_over most number i word digits so_far within over = so_far ∙ more_over most number i digits within over
