-- Numbers cut at a bound while their digits are read.
use Rattle.std.proofs.Common.{◌≡◌, ◌+◌, ◌-◌, ◌*◌, ℕ, min, true, false, cond, List, [], ◌∷◌, Some, None, option_map, refl, ap, arith}
use Rattle.std.specs.Char.{is_ascii_digit}
use Rattle.line_form.specs.Number.{digits_from}

-- starts that are equal when cut give numbers that are equal when cut
pub same_cut : (m a b : ℕ) (cs : List ℕ) → min a m ≡ min b m → option_map (λ n. min n m) (digits_from a cs) ≡ option_map (λ n. min n m) (digits_from b cs)
same_cut m a b [] h = ap (λ n. Some n) h
same_cut m a b (c ∷ cs) h =
    let next = same_cut m (10 * a + (c - 48)) (10 * b + (c - 48)) cs (omega arith) in
    elim (is_ascii_digit c) as (λ t. option_map (λ n. min n m) (cond t (digits_from (10 * a + (c - 48)) cs) None) ≡ option_map (λ n. min n m) (cond t (digits_from (10 * b + (c - 48)) cs) None)) [
      | true ↦ next
      | false ↦ refl
    ]
