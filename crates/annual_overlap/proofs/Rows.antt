-- The definitions compute the chains that are known.
use Rattle.std.proofs.Common.{◌≡◌, ℕ, pos, List, [], ◌∷◌, ◌++◌, map, refl}
use Rattle.price_base.specs.declared.Cell.{Cell}
use Rattle.price_base.specs.declared.Cell.TheVariants.{Missing, Value, NoBase}
use Rattle.annual_overlap.specs.Years.{years_of}
use Rattle.annual_overlap.specs.Chain.{points_of}
use Rattle.annual_overlap.specs.Quarters.{chained_of}
use Rattle.annual_overlap.specs.Table.{chain_of}
use Rattle.sum_rounding.specs.ShareOut.{share_of}

abbrev numbers : List ℕ → List Cell
numbers = map (λ n. Value (pos n))

-- four quarters alike
abbrev year : ℕ → List Cell
year n = numbers (n ∷ n ∷ n ∷ n ∷ [])

abbrev no_base : List Cell
no_base = NoBase ∷ NoBase ∷ NoBase ∷ NoBase ∷ []

-- food, with the middle year as reference year
food : chain_of (year 100 ++ year 110 ++ numbers (120 ∷ 120 ∷ 130 ∷ 130 ∷ [])) (year 100 ++ year 80 ++ numbers (165 ∷ 165 ∷ 179 ∷ 179 ∷ [])) 1 ≡ record {
  value = numbers (400 ∷ 440 ∷ 500 ∷ []);
  prev = numbers (400 ∷ 320 ∷ 688 ∷ []);
  level = numbers (5500000 ∷ 4400000 ∷ 6880000 ∷ []);
  drift = numbers (1 ∷ 0 ∷ 1 ∷ []);
  quarter = year 1375000 ++ year 1100000 ++ numbers (1650000 ∷ 1650000 ∷ 1790000 ∷ 1790000 ∷ []);
}
unfolding chain_of years_of points_of chained_of share_of
food = refl

-- services
services : chain_of (year 200 ++ year 210 ++ year 250) (year 200 ++ year 300 ++ year 175) 1 ≡ record {
  value = numbers (800 ∷ 840 ∷ 1000 ∷ []);
  prev = numbers (800 ∷ 1200 ∷ 700 ∷ []);
  level = numbers (5600000 ∷ 8400000 ∷ 7000000 ∷ []);
  drift = numbers (1 ∷ 0 ∷ 1 ∷ []);
  quarter = year 1400000 ++ year 2100000 ++ year 1750000;
}
unfolding chain_of years_of points_of chained_of share_of
services = refl

-- food and services together: the chained volumes aren't the sums of theirs
together : chain_of (year 300 ++ year 320 ++ numbers (370 ∷ 370 ∷ 380 ∷ 380 ∷ [])) (year 300 ++ year 380 ++ numbers (340 ∷ 340 ∷ 354 ∷ 354 ∷ [])) 1 ≡ record {
  value = numbers (1200 ∷ 1280 ∷ 1500 ∷ []);
  prev = numbers (1200 ∷ 1520 ∷ 1388 ∷ []);
  level = numbers (10105263 ∷ 12800000 ∷ 13880000 ∷ []);
  drift = numbers (1 ∷ 0 ∷ 1 ∷ []);
  quarter = numbers (2526316 ∷ 2526316 ∷ 2526316 ∷ 2526315 ∷ []) ++ year 3200000 ++ numbers (3400000 ∷ 3400000 ∷ 3540000 ∷ 3540000 ∷ []);
}
unfolding chain_of years_of points_of chained_of share_of
together = refl

-- food whose first two years have no base
without_base : chain_of (year 100 ++ year 100 ++ year 100) (no_base ++ no_base ++ year 100) 1 ≡ record {
  value = numbers (400 ∷ 400 ∷ 400 ∷ []);
  prev = NoBase ∷ NoBase ∷ numbers (400 ∷ []);
  level = NoBase ∷ numbers (4000000 ∷ 4000000 ∷ []);
  drift = NoBase ∷ numbers (0 ∷ 1 ∷ []);
  quarter = no_base ++ no_base ++ year 1000000;
}
unfolding chain_of years_of points_of chained_of share_of
without_base = refl

-- rent: its last year has three quarters, which are linked by the year before
rent : chain_of (year 100 ++ year 160 ++ numbers (99 ∷ 99 ∷ 99 ∷ [])) (year 100 ++ year 125 ++ numbers (127 ∷ 127 ∷ 127 ∷ [])) 0 ≡ record {
  value = numbers (400 ∷ 640 ∷ []) ++ (Missing ∷ []);
  prev = numbers (400 ∷ 500 ∷ []) ++ (Missing ∷ []);
  level = numbers (4000000 ∷ 5000000 ∷ []) ++ (Missing ∷ []);
  drift = numbers (0 ∷ 1 ∷ []) ++ (Missing ∷ []);
  quarter = year 1000000 ++ year 1250000 ++ numbers (992188 ∷ 992188 ∷ 992188 ∷ []);
}
unfolding chain_of years_of points_of chained_of share_of
rent = refl

-- once the fourth quarter is there the year shares out its level
rent_revised : chain_of (year 100 ++ year 160 ++ year 99) (year 100 ++ year 125 ++ year 127) 0 ≡ record {
  value = numbers (400 ∷ 640 ∷ 396 ∷ []);
  prev = numbers (400 ∷ 500 ∷ 508 ∷ []);
  level = numbers (4000000 ∷ 5000000 ∷ 3968750 ∷ []);
  drift = numbers (0 ∷ 1 ∷ 2 ∷ []);
  quarter = year 1000000 ++ year 1250000 ++ numbers (992188 ∷ 992188 ∷ 992187 ∷ 992187 ∷ []);
}
unfolding chain_of years_of points_of chained_of share_of
rent_revised = refl
