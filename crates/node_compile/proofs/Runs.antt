-- The values of a run as cells.
use Rattle.std.specs.Prelude.{◌≡◌, ℕ, ◌+◌, ◌≤◌, ◌<◌, ℤ, pos, List, [], ◌∷◌, ◌++◌, map, length, take, drop, All, IsTrue}
use Rattle.std.proofs.Common.{refl, arith, zero, suc, get_or, set, drop-cons}
use Rattle.std.proofs.Math.Numerals.{add-one}
use Rattle.std.proofs.lemmas.List.{append-nil, append_assoc, take_more_set, take_all, drop_all}
use Rattle.price_base.specs.declared.Cell.{Cell}
use Rattle.price_base.specs.declared.Cell.TheVariants.{Value}
use Rattle.price_base.specs.Cells.{IsFlow}
use Rattle.node_compile.specs.Shape.{is_number}

-- one more value is a cell
pub cells_more : (values : List ℤ) (out whole : List Cell) (t : ℕ) → t < length values → t < length out → take t out ++ map Value (drop t values) ≡ whole → take (t + 1) (set out t (Value (get_or values t (pos 0)))) ++ map Value (drop (t + 1) values) ≡ whole
cells_more values out whole t inside room e = rw (take_more_set out t (Value (get_or values t (pos 0))) room, append_assoc, add-one) (rw (drop-cons values t (pos 0) inside) at e)

-- all values are cells
pub cells_all : (values : List ℤ) (out : List Cell) (t : ℕ) → length values ≤ t → length out ≤ t → take t out ++ map Value (drop t values) ≡ map Value values → out ≡ map Value values
cells_all values out t done room e = rw (take_all t out room, drop_all t values done, append-nil) at e

-- numbers are flows
pub numbers_flow : (values : List ℤ) (cells : List Cell) → cells ≡ map Value values → All IsFlow cells
numbers_flow values cells e = rw e (each values)
  where
    each : (values : List ℤ) → All IsFlow (map Value values)
    each [] k d inside = absurd (omega arith)
    each (value ∷ values) zero d inside = λ h. cc
    each (value ∷ values) (suc k) d inside = each values k d (omega arith)

-- and they are numbers
pub numbers_are : (values : List ℤ) (cells : List Cell) → cells ≡ map Value values → All (λ cell. IsTrue (is_number cell)) cells
numbers_are values cells e = rw e (each values)
  where
    each : (values : List ℤ) → All (λ cell. IsTrue (is_number cell)) (map Value values)
    each [] k d inside = absurd (omega arith)
    each (value ∷ values) zero d inside = refl
    each (value ∷ values) (suc k) d inside = each values k d (omega arith)

-- what a list is after all of it was written
pub written : (n : ℕ) (old new : List Cell) → length new ≤ n → length old ≤ length new → take n (new ++ drop (length new) old) ≡ new
written n old new long short = rw (drop_all (length new) old short, append-nil) (take_all n new long)
