-- The sizes of a leaf's cells: what its volumes and its chain ask for.
use Rattle.std.specs.Prelude.{◌≡◌, ℕ, ◌-◌, ◌++◌, ◌^◌, ◌≤◌, ◌<◌, ℤ, pos, ◌*ℤ◌, int_le, Bool, true, false, ◌&&◌, if◌then◌else◌, List, [], ◌∷◌, map, length, unsigned_abs, All, EachIndex, Option, Some, None, IfSome}
use Rattle.std.specs.List.{range_with_len}
use Rattle.std.proofs.Common.{refl, arith, sym, subst, get_or, zero, suc}
use Rattle.std.proofs.lemmas.List.Elements.{All-map, All-replicate}
use Rattle.annual_overlap.specs.Years.{IsSizedCell}
use Rattle.price_base.specs.declared.Base.{Base}
use Rattle.price_base.specs.declared.Cell.{Cell}
use Rattle.price_base.specs.declared.Cell.TheVariants.{Missing, Value, NoBase, NoLink, Range}
use Rattle.price_base.specs.declared.Sold.{Sold}
use Rattle.price_base.specs.Volumes.{IsPrice, is_small, volume_of, volume_at, base_at, base_start, sold_at, volumes_of}
use Rattle.ratio_arith.specs.Division.{round_of}
use Rattle.series_tables.specs.Ranges.{IsPositiveOrNone}
use Rattle.node_compile.specs.Leaf.{missing}

-- values below 10^24 in size are so as cells
pub values_sized : (values : List ℤ) (cells : List Cell) → cells ≡ map Value values → All (λ value. unsigned_abs value < 10 ^ 24) values → All (IsSizedCell (10 ^ 24 - 1)) cells
values_sized values cells e each = subst (λ (cells : List Cell). All (IsSizedCell (10 ^ 24 - 1)) cells) (sym e) (All-map (IsSizedCell (10 ^ 24 - 1)) Value values (λ t d inside. let below = each t d inside in omega arith))

-- what is within a size is within a larger one
wider_cell : (size larger : ℕ) → size ≤ larger → (cell : Cell) → IsSizedCell size cell → IsSizedCell larger cell
wider_cell size larger less (Value number) h = omega (arith, h)
wider_cell size larger less Missing h = tt
wider_cell size larger less NoBase h = tt
wider_cell size larger less NoLink h = tt
wider_cell size larger less Range h = tt

pub wider : (size larger : ℕ) (cells : List Cell) → size ≤ larger → All (IsSizedCell size) cells → All (IsSizedCell larger) cells
wider size larger cells less each k d below = wider_cell size larger less (get_or cells k d) (each k d below)

-- a volume is within 10^15
volume_case : (fits none small : Bool) (volume : ℤ) → is_small volume ≡ small → IsSizedCell (10 ^ 15) (if fits then (if none then NoBase else (if small then Value volume else Range)) else Range)
volume_case true true small volume e = tt
volume_case true false true volume e = let most : unsigned_abs volume ≤ 10 ^ 15 = grind arith in most
volume_case true false false volume e = tt
volume_case false none small volume e = tt

volume_sized : (base : Option Base) (own : Option Sold) → IsSizedCell (10 ^ 15) (volume_of base own)
volume_sized (Some base) (Some own) = volume_case (is_small own.quantity && base.small) (int_le base.quantity (pos 0)) (is_small (round_of (own.quantity *ℤ base.value) base.quantity)) (round_of (own.quantity *ℤ base.value) base.quantity) refl
volume_sized (Some base) None = tt
volume_sized None own = tt

quarter_sized : (values : List ℤ) (prices : List (Option ℕ)) (t : ℕ) → IsSizedCell (10 ^ 15) (volume_at values prices t)
quarter_sized values prices t = volume_sized (base_at values prices (base_start t)) (sold_at values prices t)

all_sized : (values : List ℤ) (prices : List (Option ℕ)) → All (IsSizedCell (10 ^ 15)) (volumes_of values prices)
unfolding volumes_of
all_sized values prices = All-map (IsSizedCell (10 ^ 15)) (volume_at values prices) (range_with_len 0 (length values)) (λ k d below. quarter_sized values prices (get_or (range_with_len 0 (length values)) k d))

-- so are all volumes of a run
pub volumes_sized : (values : List ℤ) (prices : List (Option ℕ)) (cells : List Cell) → cells ≡ volumes_of values prices → All (IsSizedCell (10 ^ 15)) cells
volumes_sized values prices cells e = subst (λ (cells : List Cell). All (IsSizedCell (10 ^ 15)) cells) (sym e) (all_sized values prices)

-- a mark has no size
pub missing_sized : (size quarters : ℕ) (cells : List Cell) → cells ≡ missing quarters → All (IsSizedCell size) cells
missing_sized size quarters cells e = subst (λ (cells : List Cell). All (IsSizedCell size) cells) (sym e) (All-replicate (IsSizedCell size) quarters Missing tt)

-- prices of tables are prices of volumes
pub prices_are : (prices : List (Option ℕ)) → All IsPositiveOrNone prices → All (λ price. IfSome price IsPrice) prices
prices_are prices each k d inside = price_is (get_or prices k d) (each k d inside)
  where
    price_is : (price : Option ℕ) → IsPositiveOrNone price → IfSome price IsPrice
    price_is None range = tt
    price_is (Some price) range = range price refl
