-- How many benchmarked years an item can have.
use Rattle.std.proofs.Common.{◌≡◌, ◌≤◌, ◌<◌, ◌+◌, ◌*◌, ℕ, zero, suc, List, length, get_or, arith, Option, Some}
use Rattle.std.specs.List.Sorted.{IsStrictlyIncreasing}
use Rattle.denton_parts.specs.Years.{ArePlaces}
use Rattle.price_base.specs.declared.Cell.{Cell}
use Rattle.node_compile.specs.Shape.{IsBenchmarkedPart}
use Rattle.node_compile.specs.declared.table.LeafPart.{LeafPart}

-- a place is not before its number among places that rise
place_after : (places : List ℕ) (k : ℕ) → IsStrictlyIncreasing places → k < length places → k ≤ get_or places k 0
place_after places zero rising within = omega arith
place_after places (suc k) rising within =
    let before : k ≤ get_or places k 0 = place_after places k rising (omega arith) in
    let next : k + 1 ≡ suc k = omega arith in
    let here : get_or places k 0 < get_or places (suc k) 0 = rw next at (rising k (omega arith)) in
    omega arith

-- so there are no more than whole years
places_few : (quarters : ℕ) (places : List ℕ) → ArePlaces quarters places → 4 * length places ≤ quarters
places_few quarters places are = go (length places) (omega arith)
  where
    go : (n : ℕ) → n ≤ length places → 4 * n ≤ quarters
    go zero within = omega arith
    go (suc k) within =
        let after = place_after places k are.rising (omega arith) in
        let whole : 4 * get_or places k 0 + 4 ≤ quarters = are.whole_years k 0 (omega arith) in
        omega arith

-- a leaf has no more than 128
pub years_few : (leaf : Option LeafPart) (part : LeafPart) (values : List Cell) → IsBenchmarkedPart leaf values → leaf ≡ Some part → length values ≤ 512 → length part.bench.items ≤ 128
years_few leaf part values are is few =
    let shape = are part is in
    let places : 4 * length part.years.items ≤ length values = places_few (length values) part.years.items shape.whole_years in
    omega (arith, shape.placed)
