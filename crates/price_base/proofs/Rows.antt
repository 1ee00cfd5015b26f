-- The definitions compute the cells that are known.
use Rattle.std.proofs.Common.{◌≡◌, pos, negsuc, List, [], ◌∷◌, ◌++◌, refl}
use Rattle.std.specs.Prelude.{Some, None}
use Rattle.price_base.specs.declared.Cell.TheVariants.{Missing, Value, NoBase, Range}
use Rattle.price_base.specs.Cells.{combined}
use Rattle.price_base.specs.Volumes.{volumes_of}

-- four quarters alike
abbrev year : {X : Type 0} → X → List X
year x = x ∷ x ∷ x ∷ x ∷ []

-- food: its price rises by three eighths and falls back
food : volumes_of (year (pos 100) ++ year (pos 110) ++ (pos 120 ∷ pos 120 ∷ pos 130 ∷ pos 130 ∷ [])) (year (Some 1000000) ++ year (Some 1375000) ++ year (Some 1000000)) ≡
    year (Value (pos 100)) ++ year (Value (pos 80)) ++ (Value (pos 165) ∷ Value (pos 165) ∷ Value (pos 179) ∷ Value (pos 179) ∷ [])
unfolding volumes_of
food = refl

-- services: the price falls by three tenths and comes back
services : volumes_of (year (pos 200) ++ year (pos 210) ++ year (pos 250)) (year (Some 1000000) ++ year (Some 700000) ++ year (Some 1000000)) ≡
    year (Value (pos 200)) ++ year (Value (pos 300)) ++ year (Value (pos 175))
unfolding volumes_of
services = refl

-- a price so high that the first year's quantities round to nothing
no_base : volumes_of (year (pos 100) ++ year (pos 100) ++ year (pos 100)) (year (Some 1000000000) ++ year (Some 1000000) ++ year (Some 1000000)) ≡
    year NoBase ++ year NoBase ++ year (Value (pos 100))
unfolding volumes_of
no_base = refl

-- rent: a last year of three quarters
rent : volumes_of (year (pos 100) ++ year (pos 160) ++ (pos 99 ∷ pos 99 ∷ pos 99 ∷ [])) (year (Some 1000000) ++ year (Some 1280000) ++ (Some 1000000 ∷ Some 1000000 ∷ Some 1000000 ∷ [])) ≡
    year (Value (pos 100)) ++ year (Value (pos 125)) ++ (Value (pos 127) ∷ Value (pos 127) ∷ Value (pos 127) ∷ [])
unfolding volumes_of
rent = refl

-- a price that is not there: its own quarter is missing
missing : volumes_of (year (pos 100) ++ year (pos 100)) (year (Some 1000000) ++ (Some 1000000 ∷ None ∷ Some 1000000 ∷ Some 1000000 ∷ [])) ≡
    year (Value (pos 100)) ++ (Value (pos 100) ∷ Missing ∷ Value (pos 100) ∷ Value (pos 100) ∷ [])
unfolding volumes_of
missing = refl

-- the order of the marks in a sum
marks : combined (Value (pos 1) ∷ Range ∷ NoBase ∷ []) ≡ NoBase
marks = refl

sums : combined (Value (pos 1) ∷ Value (negsuc 4) ∷ []) ≡ Value (negsuc 3)
sums = refl
