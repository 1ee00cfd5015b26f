-- Leaves with prices worked on the definitions: what the volumes, the levels, their drifts and the chained quarters are.
use Rattle.std.proofs.Common.{◌≡◌, ℕ, pos, List, [], ◌∷◌, map, Some, None, refl}
use Rattle.annual_overlap.specs.Chain.{points_of}
use Rattle.annual_overlap.specs.Quarters.{chained_of}
use Rattle.annual_overlap.specs.Table.{chain_of}
use Rattle.annual_overlap.specs.Years.{years_of}
use Rattle.denton_parts.specs.Scale.{greatest_up_to}
use Rattle.denton_solve.specs.Sweeps.{sweep_of, iterated, multipliers_of}
use Rattle.extrapolate.specs.Carried.{across_of, carried_back_of, carried_of}
use Rattle.price_base.specs.Volumes.{volumes_of}
use Rattle.price_base.specs.declared.Cell.{Cell}
use Rattle.price_base.specs.declared.Cell.TheVariants.{Value}
use Rattle.sum_rounding.specs.ShareOut.{share_of}
use Rattle.node_compile.specs.Leaf.{leaf_table}
use Rattle.node_compile.specs.Table.{Table}

-- the same in the four quarters of a year
abbrev year : {A : Type 0} → A → List A → List A
year a later = a ∷ a ∷ a ∷ a ∷ later

-- numbers as cells
abbrev cells : List ℕ → List Cell
cells numbers = map (λ n. Value (pos n)) numbers

-- rent with the benchmarks 400 and 640, whose last year goes on in the prices of the first: the values of that year are carried forward, and its level
-- is shared out with the rests to the earlier quarters
abbrev rent : Table
rent = leaf_table (year 100 (year 160 (year 99 []))) (map (λ price. Some price) (year 1000000 (year 1280000 (year 1000000 [])))) (Some (pos 400) ∷ Some (pos 640) ∷ None ∷ []) 0

rent_values : rent.value ≡ cells (year 100 (year 160 (year 99 [])))
unfolding leaf_table greatest_up_to multipliers_of iterated sweep_of share_of carried_of carried_back_of across_of
rent_values = refl

rent_volumes : rent.prev ≡ cells (year 100 (year 125 (year 127 [])))
unfolding leaf_table greatest_up_to multipliers_of iterated sweep_of share_of carried_of carried_back_of across_of volumes_of
rent_volumes = refl

rent_chain : rent.chain ≡ record {
  value = cells (400 ∷ 640 ∷ 396 ∷ []);
  prev = cells (400 ∷ 500 ∷ 508 ∷ []);
  level = cells (4000000 ∷ 5000000 ∷ 3968750 ∷ []);
  drift = cells (0 ∷ 1 ∷ 2 ∷ []);
  quarter = cells (year 1000000 (year 1250000 (992188 ∷ 992188 ∷ 992187 ∷ 992187 ∷ [])));
}
unfolding leaf_table greatest_up_to multipliers_of iterated sweep_of share_of carried_of carried_back_of across_of volumes_of chain_of years_of points_of chained_of
rent_chain = refl

-- food with the benchmarks 400, 440 and 500, chained from the second year: a level before it is the one after divided by their link
abbrev food : Table
food = leaf_table (year 100 (year 110 (120 ∷ 120 ∷ 130 ∷ 130 ∷ []))) (map (λ price. Some price) (year 1000000 (year 1375000 (year 1000000 [])))) (map (λ benchmark. Some (pos benchmark)) (400 ∷ 440 ∷ 500 ∷ [])) 1

food_volumes : food.prev ≡ cells (year 100 (year 80 (165 ∷ 165 ∷ 179 ∷ 179 ∷ [])))
unfolding leaf_table greatest_up_to multipliers_of iterated sweep_of share_of carried_of carried_back_of across_of volumes_of
food_volumes = refl

food_chain : food.chain ≡ record {
  value = cells (400 ∷ 440 ∷ 500 ∷ []);
  prev = cells (400 ∷ 320 ∷ 688 ∷ []);
  level = cells (5500000 ∷ 4400000 ∷ 6880000 ∷ []);
  drift = cells (1 ∷ 0 ∷ 1 ∷ []);
  quarter = cells (year 1375000 (year 1100000 (1650000 ∷ 1650000 ∷ 1790000 ∷ 1790000 ∷ [])));
}
unfolding leaf_table greatest_up_to multipliers_of iterated sweep_of share_of carried_of carried_back_of across_of volumes_of chain_of years_of points_of chained_of
food_chain = refl

-- its benchmarks are the sums of its indicators, so it needs no multiplier and has no gap
food_certificate : food.leaf ≡ Some (record { indicators = year 100 (year 110 (120 ∷ 120 ∷ 130 ∷ 130 ∷ [])); places = 0 ∷ 1 ∷ 2 ∷ []; benchmarks = map pos (400 ∷ 440 ∷ 500 ∷ []); scale = 13; multipliers = map pos (0 ∷ 0 ∷ []); gap = pos 0 })
unfolding leaf_table greatest_up_to multipliers_of iterated sweep_of share_of carried_of carried_back_of across_of
food_certificate = refl

-- freight with equal indicators and the benchmarks 1000 of its second year and 1400 of its fourth alone: the first year is carried back, the third goes
-- across, and the fifth is carried on
abbrev freight : Table
freight = leaf_table (year 100 (year 100 (year 100 (year 100 (year 100 []))))) (map (λ price. Some price) (year 1000000 (year 1000000 (year 1000000 (year 1000000 (year 1000000 []))))))
    (None ∷ Some (pos 1000) ∷ None ∷ Some (pos 1400) ∷ None ∷ []) 1

freight_values : freight.value ≡ cells (year 241 (241 ∷ 244 ∷ 252 ∷ 263 ∷ 278 ∷ 293 ∷ 307 ∷ 322 ∷ 337 ∷ 348 ∷ 356 ∷ 359 ∷ year 359 []))
unfolding leaf_table greatest_up_to multipliers_of iterated sweep_of share_of carried_of carried_back_of across_of
freight_values = refl

-- its years stand at 1 and 3, and the multiplier between them stands through the year that has no benchmark
freight_certificate : freight.leaf ≡ Some (record { indicators = year 100 (year 100 (year 100 (year 100 (year 100 [])))); places = 1 ∷ 3 ∷ []; benchmarks = map pos (1000 ∷ 1400 ∷ []); scale = 12; multipliers = map pos (148148148148 ∷ []); gap = pos 251851851851851851852 })
unfolding leaf_table greatest_up_to multipliers_of iterated sweep_of share_of carried_of carried_back_of across_of
freight_certificate = refl
