-- Steps of the loop over quarters, and what the cells that it writes are.
use Rattle.std.proofs.Common.{map, ◌≡◌, ◌≢◌, ℕ, zero, suc, ◌+◌, ◌%◌, ◌<◌, ◌≤◌, ◌⊎◌, inl, inr, ℤ, pos, ◌*ℤ◌, set, Bool, true, false, if◌then◌else◌, List, [], ◌∷◌, length, get_or, arith, ap, ◌∙◌, int_le}
use Rattle.std.specs.Prelude.{Option, Some, None, ◌&&◌}
use Rattle.std.specs.List.{All, range_with_len}
use Rattle.std.proofs.lemmas.List.Elements.{All-map}
use Rattle.std.proofs.lemmas.List.Edits.{fill_by_more}
use Rattle.std.proofs.lemmas.List.FromFn.{fill_by_all, length-map-range_with_len, get_or-map-range_with_len}
use Rattle.ratio_arith.specs.Division.{round_of}
use Rattle.price_base.specs.declared.Cell.{Cell}
use Rattle.price_base.specs.declared.Cell.TheVariants.{Missing, Value, NoBase, NoLink, Range}
use Rattle.price_base.specs.declared.Sold.{Sold}
use Rattle.price_base.specs.declared.Base.{Base}
use Rattle.price_base.specs.Cells.{IsFlow}
use Rattle.price_base.specs.Volumes.{base_at, base_start, volume_of, volume_at, volumes_of, sold_at, is_small}

-- the quarters of one year have one base
pub same_base : (quarter : ℕ) → ((quarter + 1) % 4 ≡ 0) ⊎ (base_start quarter ≡ base_start (quarter + 1))
same_base quarter = grind arith

pub kept_base : (values : List ℤ) (prices : List (Option ℕ)) (quarter : ℕ) (base : Option Base) → base ≡ base_at values prices (base_start quarter) →
    ((quarter + 1) % 4 ≡ 0) ⊎ (base ≡ base_at values prices (base_start (quarter + 1)))
kept_base values prices quarter base e = elim (same_base quarter) [ inl first ↦ inl first | inr same ↦ inr (e ∙ ap (base_at values prices) same) ]

-- one more quarter is written
pub written_more : (values : List ℤ) (prices : List (Option ℕ)) (out : List Cell) (quarter : ℕ) (base : Option Base) (own : Option Sold) (cell : Cell) →
    quarter < length out → cell ≡ volume_of base own → base ≡ base_at values prices (base_start quarter) → own ≡ sold_at values prices quarter →
    ((k : ℕ) → k < quarter → get_or out k Missing ≡ volume_at values prices k) → (k : ℕ) → k < quarter + 1 → get_or (set out quarter cell) k Missing ≡ volume_at values prices k
written_more values prices out quarter base own cell below e b o written =
    let is : cell ≡ volume_at values prices quarter = e ∙ ap (λ z. volume_of z own) b ∙ ap (volume_of (base_at values prices (base_start quarter))) o in
    rw is (fill_by_more (volume_at values prices) out quarter Missing below written)

-- all quarters are written
pub written_all : (values : List ℤ) (prices : List (Option ℕ)) (out : List Cell) (quarter : ℕ) → length values ≤ quarter → length out ≡ length values →
    ((k : ℕ) → k < quarter → get_or out k Missing ≡ volume_at values prices k) → out ≡ volumes_of values prices
unfolding volumes_of
written_all values prices out quarter ended same written = fill_by_all (volume_at values prices) out (length values) Missing same (λ k below. written k (omega arith))

-- no volume is the mark of a link
not_link : (fits none within : Bool) (volume : ℤ) → (if fits then (if none then NoBase else (if within then Value volume else Range)) else Range) ≢ NoLink
not_link true true within volume e = cc
not_link true false true volume e = cc
not_link true false false volume e = cc
not_link false none within volume e = cc

volume_flow : (base : Option Base) (own : Option Sold) → IsFlow (volume_of base own)
volume_flow (Some base) (Some own) = not_link (is_small own.quantity && base.small) (int_le base.quantity (pos 0)) _ (round_of (own.quantity *ℤ base.value) base.quantity)
volume_flow (Some base) None = λ e. cc
volume_flow None own = λ e. cc

quarter_flow : (values : List ℤ) (prices : List (Option ℕ)) (t : ℕ) → IsFlow (volume_at values prices t)
quarter_flow values prices t = volume_flow (base_at values prices (base_start t)) (sold_at values prices t)

-- no volume of a leaf is the mark of a link
pub volumes_flow : (values : List ℤ) (prices : List (Option ℕ)) → All IsFlow (volumes_of values prices)
unfolding volumes_of
volumes_flow values prices = All-map IsFlow (volume_at values prices) (range_with_len 0 (length values)) (λ k d below. quarter_flow values prices (get_or (range_with_len 0 (length values)) k d))

-- what holds of each element and of the default holds at each index
pub at_each_index : {X : Type 0} (P : X → Type 0) (xs : List X) (d : X) → All P xs → P d → (k : ℕ) → P (get_or xs k d)
at_each_index P [] d all own k = own
at_each_index P (x ∷ xs) d all own zero = all zero d (omega arith)
at_each_index P (x ∷ xs) d all own (suc k) = at_each_index P xs d (λ j e below. all (suc j) e (omega arith)) own k

-- a leaf has as many volume cells as values
pub length-volumes_of : (values : List ℤ) (prices : List (Option ℕ)) → length (volumes_of values prices) ≡ length values
unfolding volumes_of
length-volumes_of values prices = length-map-range_with_len (volume_at values prices) 0 (length values)

-- the volume cell of one quarter
pub get_or-volumes_of : (values : List ℤ) (prices : List (Option ℕ)) (t : ℕ) → t < length values → get_or (volumes_of values prices) t Missing ≡ volume_at values prices t
unfolding volumes_of
get_or-volumes_of values prices t below = get_or-map-range_with_len (volume_at values prices) 0 (length values) t t Missing below (omega arith)

-- no value is the mark of a link
pub values_flow : (values : List ℤ) → All IsFlow (map Value values)
values_flow values = All-map IsFlow Value values (λ k d below e. cc)
