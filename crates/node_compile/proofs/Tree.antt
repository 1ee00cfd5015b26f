-- Inner items: the sum over an item's children among the items behind it, and the table that it gives.
use Rattle.std.proofs.Common.{◌≡◌, ◌∙◌, ap, sym, refl, subst, inl, inr, ℕ, zero, suc, ◌+◌, ◌-◌, ◌*◌, ◌^◌, ◌<◌, ◌≤◌, ℤ, unsigned_abs, Bool, true, false, ◌||◌, not, cond, List, [], ◌∷◌, ◌++◌, length, map, take, drop, reverse, get_or, Option, None, arith, drop-cons, length-append, length-drop}
use Rattle.std.specs.Prelude.{nat_lt}
use Rattle.std.specs.List.{All, list_any, flat_map, range_with_len, take_while, AllByRecursion, prefix_len}
use Rattle.std.proofs.lemmas.Bool.{cases_lt}
use Rattle.std.proofs.lemmas.List.{get_or_default, get_or_past, get_or-map, get_or-reverse, reverse-reverse, reverse-append, length-reverse, length-map, map-append, take-append-drop}
use Rattle.std.proofs.lemmas.Simd.{map-map}
use Rattle.std.proofs.lemmas.List.Elements.{All-map, All-take}
use Rattle.std.proofs.lemmas.List.Folds.{list_any-append}
use Rattle.std.proofs.lemmas.List.FromFn.{get_or-map-range_with_len, get_or-range_with_len, length-range_with_len}
use Rattle.std.proofs.Math.Seq.{take-length, take-suc}
use Rattle.aggregate_tree.proofs.Adding.{leaf_alone}
use Rattle.aggregate_tree.proofs.Combining.{amount_of}
use Rattle.aggregate_tree.proofs.Kept.{cells_few}
use Rattle.aggregate_tree.proofs.Places.{sum_more, length-with_cells}
use Rattle.aggregate_tree.proofs.Sizes.{sums_grow}
use Rattle.aggregate_tree.specs.Leaves.{added, all_leaves, HasLeaf}
use Rattle.aggregate_tree.specs.Tallies.{IsSumOf, no_tally, tally_at, cell_of, cells_of, is_reached, with_cells, AreValueSums, AreVolumeSums}
use Rattle.aggregate_tree.specs.declared.tally.Tally.{Tally}
use Rattle.annual_overlap.specs.Years.{IsSizedCell}
use Rattle.price_base.specs.declared.Cell.{Cell}
use Rattle.price_base.specs.declared.Cell.TheVariants.{Missing, Value, NoBase, NoLink, Range}
use Rattle.price_base.specs.Cells.{cell_at, IsFlow}
use Rattle.series_tables.proofs.Leaves.{number_of, leaves_under_item, no_children, some_child, of_children-map, children_have_leaves, children_few, leaves_count, parents_from_item}
use Rattle.series_tables.specs.Plan.{PlanShape, is_parent, is_leaf}
use Rattle.series_tables.specs.Tree.{of_children, leaves_of, leaves_from, leaves_under}
use Rattle.series_tables.specs.declared.input.Kind.{Kind}
use Rattle.node_compile.specs.Items.{AreItemCells, IsKnownItem, AreLastItems, IsSumBehind}
use Rattle.node_compile.specs.Release.{table_of_leaf, inner_table, values_of_leaves, volumes_of_leaves, item_table, item_tables}
use Rattle.node_compile.specs.Table.{Table}
use Rattle.node_compile.specs.Laws.{IsTrulyChained}
use Rattle.node_compile.proofs.Items.{leaf_is_item}
use Rattle.node_compile.proofs.Worth.{table_chained, leaf_chained}

-- nothing is left past the end
pub drop_past : {X : Type 0} (n : ℕ) (xs : List X) → length xs ≤ n → drop n xs ≡ []
drop_past zero [] h = refl
drop_past (suc n) [] h = refl
drop_past zero (x ∷ xs) h = absurd (omega (arith, h))
drop_past (suc n) (x ∷ xs) h = drop_past n xs (omega (arith, h))

-- what is made of a list from behind
pub reverse-map : {X Y : Type 0} (f : X → Y) (xs : List X) → reverse (map f xs) ≡ map f (reverse xs)
reverse-map f [] = refl
reverse-map {X = X} {Y = Y} f (x ∷ xs) =
    reverse-append (f x ∷ []) (map f xs) ∙ ap (λ (ys : List Y). ys ++ f x ∷ []) (reverse-map f xs) ∙ sym (map-append f (reverse xs) (x ∷ [])) ∙ ap (map f) (sym (reverse-append (x ∷ []) xs))

-- a cell's number is within the cell's size
amount_sized : (most : ℕ) (cell : Cell) → IsSizedCell most cell → unsigned_abs (amount_of cell) ≤ most
amount_sized most (Value value) small = small
amount_sized most Missing small = omega arith
amount_sized most NoBase small = omega arith
amount_sized most NoLink small = omega arith
amount_sized most Range small = omega arith

-- what is past the end is missing, so sized cells are sized everywhere
pub sized_everywhere : (most : ℕ) (cells : List Cell) → All (IsSizedCell most) cells → (t : ℕ) → IsSizedCell most (cell_at cells t)
sized_everywhere most cells sized t = elim (cases_lt t (length cells)) [
  | inl below ↦ sized t Missing below
  | inr past ↦ subst (IsSizedCell most) (sym (get_or_past cells t Missing past)) tt
]

-- the cells of a sum are within its sums
pub cell_sized : (most : ℕ) (missing no_base range : Bool) (sum : ℤ) → unsigned_abs sum ≤ most → IsSizedCell most (cond missing Missing (cond no_base NoBase (cond range Range (Value sum))))
cell_sized most true no_base range sum h = tt
cell_sized most false true range sum h = tt
cell_sized most false false true sum h = tt
cell_sized most false false false sum h = h

pub sum_sized : (most : ℕ) (tallies : List Tally) → ((t : ℕ) → unsigned_abs (tally_at tallies t).sum ≤ most) → (t : ℕ) → IsSizedCell most (cell_at (cells_of tallies) t)
sum_sized most tallies sums =
    sized_everywhere most (cells_of tallies)
    (All-map (IsSizedCell most) cell_of (take_while is_reached tallies)
    (All-take (λ tally. IsSizedCell most (cell_of tally)) (prefix_len is_reached tallies) tallies
    (λ k d below. subst (λ (tally : Tally). IsSizedCell most (cell_of tally)) (get_or_default tallies k no_tally d below)
    (let tally : Tally = tally_at tallies k in cell_sized most (nat_lt 0 tally.missing) (nat_lt 0 tally.no_base) (nat_lt 0 tally.range) tally.sum (sums k)))))

-- the leaves under an inner item are those under its children
leaves_of_some : (item : ℕ) (children : List (List ℕ)) → 0 < length children → leaves_of item children ≡ flat_map (λ leaves. leaves) children
leaves_of_some item [] some = absurd (omega (arith, some))
leaves_of_some item (first ∷ children) some = refl

pub leaves_of_inner : (plan : PlanShape) (item : ℕ) → item < length plan.parents → list_any (is_parent item) (drop (suc item) plan.parents) ≡ true
    → leaves_under plan item ≡ flat_map (λ leaves. leaves) (of_children item (drop (suc item) plan.parents) (leaves_from (suc item) (drop (suc item) plan.parents)))
leaves_of_inner plan item inside inner =
    let parents : List (Option ℕ) = drop (suc item) plan.parents in
    leaves_under_item plan item inside ∙ leaves_of_some item (of_children item parents (leaves_from (suc item) parents)) (some_child item parents (leaves_from (suc item) parents) (leaves_count (suc item) parents) inner)

-- those under a leaf are the leaf alone
list_any_drop : {X : Type 0} (test : X → Bool) (count : ℕ) (xs : List X) → list_any test xs ≡ false → list_any test (drop count xs) ≡ false
list_any_drop test count xs none = by_part (list_any test (take count xs)) (list_any test (drop count xs)) (sym (list_any-append test (take count xs) (drop count xs)) ∙ ap (list_any test) (take-append-drop count xs) ∙ none)
  where
    by_part : (front back : Bool) → (front || back) ≡ false → back ≡ false
    by_part true back e = absurd (let never : true ≡ false = e in cc)
    by_part false back e = e

pub leaf_of_itself : (plan : PlanShape) (item : ℕ) → item < length plan.parents → is_leaf plan item ≡ true → leaves_under plan item ≡ item ∷ []
leaf_of_itself plan item inside leaf =
    let parents : List (Option ℕ) = drop (suc item) plan.parents in
    leaves_under_item plan item inside ∙ ap (leaves_of item) (no_children item parents (leaves_from (suc item) parents) (list_any_drop (is_parent item) (suc item) plan.parents (none_named (list_any (is_parent item) plan.parents) leaf)))
  where
    none_named : (b : Bool) → not b ≡ true → b ≡ false
    none_named true e = absurd (let never : false ≡ true = e in cc)
    none_named false e = refl

-- behind the last item there is nothing to add
pub nothing_behind : (most item first : ℕ) (parents : List (Option ℕ)) (tallies : List Tally) → length parents ≤ first → length tallies ≡ 256 → IsSumOf [] tallies → IsSumBehind most item first (drop first parents) [] tallies
nothing_behind most item first parents tallies past room sum =
    subst (λ (ps : List (Option ℕ)). IsSumBehind most item first ps [] tallies) (sym (drop_past first parents past)) (record { room = room; sum = sum; sizes = sizes })
  where
    sizes : (t : ℕ) → unsigned_abs (tally_at tallies t).sum ≤ most * 0
    sizes t = elim (cases_lt t (length tallies)) [
      | inl below ↦ subst (λ (tally : Tally). unsigned_abs tally.sum ≤ most * 0) (sym (sum.each t below)) (omega arith)
      | inr beyond ↦ subst (λ (tally : Tally). unsigned_abs tally.sum ≤ most * 0) (sym (get_or_past tallies t no_tally beyond)) (omega arith)
    ]

-- one more item behind, which is a child
pub child_more : (most item first : ℕ) (parent : Option ℕ) (parents : List (Option ℕ)) (cells : List Cell) (lists : List (List Cell)) (tallies : List Tally) → is_parent item parent ≡ true → length cells ≤ 256
    → AreItemCells most (length (leaves_of first (of_children first parents (leaves_from (suc first) parents)))) cells
    → IsSumBehind most item (suc first) parents lists tallies → IsSumBehind most item first (parent ∷ parents) (cells ∷ lists) (with_cells cells tallies)
unfolding leaves_from
child_more most item first parent parents cells lists tallies own short cells_are before = record { room = length-with_cells cells tallies ∙ before.room; sum = sum; sizes = sizes }
  where
    leaves : List ℕ
    leaves = leaves_of first (of_children first parents (leaves_from (suc first) parents))

    rest : List (List ℕ)
    rest = of_children item parents (leaves_from (suc first) parents)

    sum : IsSumOf (of_children item (parent ∷ parents) (cells ∷ lists)) (with_cells cells tallies)
    sum = rw own (sum_more cells (of_children item parents lists) tallies (omega (arith, before.room, short)) before.sum)

    number : length (flat_map (λ l. l) (cond (is_parent item parent) (leaves ∷ rest) rest)) ≡ length leaves + length (flat_map (λ l. l) rest)
    number = rw own (length-append leaves (flat_map (λ l. l) rest))

    sizes : (t : ℕ) → unsigned_abs (tally_at (with_cells cells tallies) t).sum ≤ most * length (flat_map (λ l. l) (cond (is_parent item parent) (leaves ∷ rest) rest))
    sizes t =
        let grown = sums_grow (most * length leaves) (most * length (flat_map (λ l. l) rest)) cells tallies (λ u. amount_sized (most * length leaves) (cell_at cells u) (cells_are.sizes u)) before.sizes t in
        let both : most * length leaves + most * length (flat_map (λ l. l) rest) ≡ most * (length leaves + length (flat_map (λ l. l) rest)) = grind arith in
        rw number (omega (arith, grown, both))

-- one more item behind, which is none
pub other_more : (most item first : ℕ) (parent : Option ℕ) (parents : List (Option ℕ)) (cells : List Cell) (lists : List (List Cell)) (tallies : List Tally) → is_parent item parent ≡ false
    → IsSumBehind most item (suc first) parents lists tallies → IsSumBehind most item first (parent ∷ parents) (cells ∷ lists) tallies
unfolding leaves_from
other_more most item first parent parents cells lists tallies other before = record { room = before.room; sum = rw other before.sum; sizes = rw other before.sizes }

-- the same in the items' order, for a loop from the last item to the first over a list for each item: a turn at a child, whose cells are added
pub turn_at_child : (most item child : ℕ) (plan : PlanShape) (lists : List (List Cell)) (tallies : List Tally) → child < length plan.parents → child < length lists
    → AreItemCells most (length (leaves_under plan child)) (get_or lists child []) → is_parent item (get_or plan.parents child None) ≡ true
    → IsSumBehind most item (suc child) (drop (suc child) plan.parents) (drop (suc child) lists) tallies
    → IsSumBehind most item child (drop child plan.parents) (drop child lists) (with_cells (get_or lists child []) tallies)
turn_at_child most item child plan lists tallies inside listed known mine before =
    rw (parents_from_item plan.parents child inside, drop-cons lists child [] listed)
    (child_more most item child (get_or plan.parents child None) (drop (suc child) plan.parents) (get_or lists child []) (drop (suc child) lists) tallies mine known.few
    (subst (λ (leaves : List ℕ). AreItemCells most (length leaves) (get_or lists child [])) (leaves_under_item plan child inside) known) before)

-- and a turn at another item
pub turn_at_other : (most item child : ℕ) (plan : PlanShape) (lists : List (List Cell)) (tallies : List Tally) → child < length plan.parents → child < length lists
    → is_parent item (get_or plan.parents child None) ≡ false
    → IsSumBehind most item (suc child) (drop (suc child) plan.parents) (drop (suc child) lists) tallies
    → IsSumBehind most item child (drop child plan.parents) (drop child lists) tallies
turn_at_other most item child plan lists tallies inside listed other before =
    rw (parents_from_item plan.parents child inside, drop-cons lists child [] listed)
    (other_more most item child (get_or plan.parents child None) (drop (suc child) plan.parents) (get_or lists child []) (drop (suc child) lists) tallies other before)

-- the last of some first elements is the first from behind
reverse_more : {X : Type 0} (xs : List X) (place : ℕ) (d : X) → place < length xs → reverse (take (suc place) xs) ≡ get_or xs place d ∷ reverse (take place xs)
reverse_more xs place d within = ap reverse (take-suc xs place d within) ∙ reverse-append (take place xs) (get_or xs place d ∷ [])

-- the lists behind, with one more
lists_more : (lists : List (List Cell)) (cells : List Cell) (done place : ℕ) → done ≡ suc place → place < length lists → cells ≡ get_or lists place [] → reverse (take done lists) ≡ cells ∷ reverse (take place lists)
lists_more lists cells done place e_done within e_cells =
    ap (λ (n : ℕ). reverse (take n lists)) e_done ∙ reverse_more lists place [] within ∙ ap (λ (l : List Cell). l ∷ reverse (take place lists)) (sym e_cells)

-- a turn over the items behind at a child, whose cells are added
child_turn : (most item first next done place child : ℕ) (plan : PlanShape) (lists : List (List Cell)) (cells : List Cell) (tallies : List Tally) → first ≡ suc child → next ≡ child → done ≡ suc place
    → child < length plan.parents → place < length lists → cells ≡ get_or lists place [] → length cells ≤ 256 → AreItemCells most (length (leaves_under plan child)) (get_or lists place [])
    → IsSumBehind most item first (drop first plan.parents) (reverse (take place lists)) tallies → is_parent item (get_or plan.parents child None) ≡ true
    → IsSumBehind most item next (drop next plan.parents) (reverse (take done lists)) (with_cells cells tallies)
child_turn most item first next done place child plan lists cells tallies e_first e_next e_done inside within e_cells short known before mine =
    let parents : List (Option ℕ) = drop (suc child) plan.parents in
    let parent : Option ℕ = get_or plan.parents child None in
    let here : drop child plan.parents ≡ parent ∷ parents = parents_from_item plan.parents child inside in
    let own : AreItemCells most (length (leaves_of child (of_children child parents (leaves_from (suc child) parents)))) cells =
    subst (λ (l : List Cell). AreItemCells most (length (leaves_of child (of_children child parents (leaves_from (suc child) parents)))) l) (sym e_cells)
    (subst (λ (leaves : List ℕ). AreItemCells most (length leaves) (get_or lists place [])) (leaves_under_item plan child inside) known) in
    let so_far : IsSumBehind most item (suc child) parents (reverse (take place lists)) tallies = subst (λ (n : ℕ). IsSumBehind most item n (drop n plan.parents) (reverse (take place lists)) tallies) e_first before in
    rw (lists_more lists cells done place e_done within e_cells, e_next, here) (child_more most item child parent parents cells (reverse (take place lists)) tallies mine short own so_far)

-- a turn at another item
other_turn : (most item first next done place child : ℕ) (plan : PlanShape) (lists : List (List Cell)) (tallies : List Tally) → first ≡ suc child → next ≡ child → done ≡ suc place
    → child < length plan.parents → place < length lists → IsSumBehind most item first (drop first plan.parents) (reverse (take place lists)) tallies → is_parent item (get_or plan.parents child None) ≡ false
    → IsSumBehind most item next (drop next plan.parents) (reverse (take done lists)) tallies
other_turn most item first next done place child plan lists tallies e_first e_next e_done inside within before other =
    let parents : List (Option ℕ) = drop (suc child) plan.parents in
    let parent : Option ℕ = get_or plan.parents child None in
    let here : drop child plan.parents ≡ parent ∷ parents = parents_from_item plan.parents child inside in
    let so_far : IsSumBehind most item (suc child) parents (reverse (take place lists)) tallies = subst (λ (n : ℕ). IsSumBehind most item n (drop n plan.parents) (reverse (take place lists)) tallies) e_first before in
    rw (lists_more lists (get_or lists place []) done place e_done within refl, e_next, here) (other_more most item child parent parents (get_or lists place []) (reverse (take place lists)) tallies other so_far)

-- the sums stay in range, since there are at most 512 items
pub value_sums_fit : (item first : ℕ) (parents : List (Option ℕ)) (lists : List (List Cell)) (tallies : List Tally) → item < first → length parents ≤ 512 → IsSumBehind (10 ^ 24) item first parents lists tallies → AreValueSums tallies
value_sums_fit item first parents lists tallies before few sum t = omega (arith, sum.sizes t, children_few item first parents before, few)

pub volume_sums_fit : (item first : ℕ) (parents : List (Option ℕ)) (lists : List (List Cell)) (tallies : List Tally) → item < first → length parents ≤ 512 → IsSumBehind (10 ^ 15) item first parents lists tallies → AreVolumeSums tallies
volume_sums_fit item first parents lists tallies before few sum t = omega (arith, sum.sizes t, children_few item first parents before, few)

-- the cells of a table behind
cells_here : {X : Type 0} (f : X → List Cell) (place : ℕ) (behind : List X) (node : X) → place < length behind → node ≡ get_or behind place node → f node ≡ get_or (map f behind) place []
cells_here f place behind node within here = ap f here ∙ sym (get_or-map f behind place node [] within)

-- there are at most 256 of them
pub node_few : {X : Type 0} (f : X → List Cell) (most place : ℕ) (plan : PlanShape) (behind : List X) (node : X) → place < length behind → node ≡ get_or behind place node
    → ((k : ℕ) → k < length behind → AreItemCells most (length (leaves_under plan (length plan.names - 1 - k))) (get_or (map f behind) k []))
    → length (f node) ≤ 256
node_few f most place plan behind node within here known = subst (λ (l : List Cell). length l ≤ 256) (sym (cells_here f place behind node within here)) (known place within).few

-- a turn over the tables behind, of which this one stands at the turn's place
pub node_turn : {X : Type 0} (f : X → List Cell) (most item place : ℕ) (plan : PlanShape) (behind : List X) (node : X) (tallies : List Tally) → length plan.parents ≡ length plan.names → suc item + length behind ≡ length plan.names
    → place < length behind → node ≡ get_or behind place node
    → ((k : ℕ) → k < length behind → AreItemCells most (length (leaves_under plan (length plan.names - 1 - k))) (get_or (map f behind) k []))
    → IsSumBehind most item (length plan.names - place) (drop (length plan.names - place) plan.parents) (reverse (take place (map f behind))) tallies
    → is_parent item (get_or plan.parents (length plan.names - 1 - place) None) ≡ true
    → IsSumBehind most item (length plan.names - (place + 1)) (drop (length plan.names - (place + 1)) plan.parents) (reverse (take (place + 1) (map f behind))) (with_cells (f node) tallies)
node_turn f most item place plan behind node tallies count whole within here known before mine =
    let here_cells : f node ≡ get_or (map f behind) place [] = cells_here f place behind node within here in
    let short = node_few f most place plan behind node within here known in
    child_turn most item (length plan.names - place) (length plan.names - (place + 1)) (place + 1) place (length plan.names - 1 - place) plan (map f behind) (f node) tallies
    (omega arith) (omega arith) (omega arith) (omega arith) (omega (arith, length-map behind f)) here_cells short (known place within) before mine

pub turn_past : {X : Type 0} (f : X → List Cell) (most item place : ℕ) (plan : PlanShape) (behind : List X) (tallies : List Tally) → length plan.parents ≡ length plan.names → suc item + length behind ≡ length plan.names
    → place < length behind → is_parent item (get_or plan.parents (length plan.names - 1 - place) None) ≡ false
    → IsSumBehind most item (length plan.names - place) (drop (length plan.names - place) plan.parents) (reverse (take place (map f behind))) tallies
    → IsSumBehind most item (length plan.names - (place + 1)) (drop (length plan.names - (place + 1)) plan.parents) (reverse (take (place + 1) (map f behind))) tallies
turn_past f most item place plan behind tallies count whole within other before =
    other_turn most item (length plan.names - place) (length plan.names - (place + 1)) (place + 1) place (length plan.names - 1 - place) plan (map f behind) tallies
    (omega arith) (omega arith) (omega arith) (omega arith) (omega (arith, length-map behind f)) before other

-- after the last turn all items behind are summed
pub turns_done : {X : Type 0} (f : X → List Cell) (most item place : ℕ) (plan : PlanShape) (behind : List X) (tallies : List Tally) → suc item + length behind ≡ length plan.names → place ≡ length behind
    → IsSumBehind most item (length plan.names - place) (drop (length plan.names - place) plan.parents) (reverse (take place (map f behind))) tallies
    → IsSumBehind most item (suc item) (drop (suc item) plan.parents) (reverse (map f behind)) tallies
turns_done f most item place plan behind tallies whole done sum =
    let first : length plan.names - place ≡ suc item = omega arith in
    let all : take place (map f behind) ≡ map f behind = ap (λ (n : ℕ). take n (map f behind)) (done ∙ sym (length-map behind f)) ∙ take-length (map f behind) in
    subst (λ (n : ℕ). IsSumBehind most item n (drop n plan.parents) (reverse (map f behind)) tallies) first
    (subst (λ (lists : List (List Cell)). IsSumBehind most item (length plan.names - place) (drop (length plan.names - place) plan.parents) (reverse lists) tallies) all sum)

-- a turn's sums stay in range
pub value_turn_fits : {X : Type 0} (f : X → List Cell) (item place : ℕ) (plan : PlanShape) (behind : List X) (tallies : List Tally) → length plan.parents ≤ 512 → suc item + length behind ≡ length plan.names → place < length behind
    → IsSumBehind (10 ^ 24) item (length plan.names - (place + 1)) (drop (length plan.names - (place + 1)) plan.parents) (reverse (take (place + 1) (map f behind))) tallies → AreValueSums tallies
value_turn_fits f item place plan behind tallies few whole within sum =
    value_sums_fit item (length plan.names - (place + 1)) (drop (length plan.names - (place + 1)) plan.parents) (reverse (take (place + 1) (map f behind))) tallies (omega arith) (omega (arith, length-drop (length plan.names - (place + 1)) plan.parents)) sum

pub volume_turn_fits : {X : Type 0} (f : X → List Cell) (item place : ℕ) (plan : PlanShape) (behind : List X) (tallies : List Tally) → length plan.parents ≤ 512 → suc item + length behind ≡ length plan.names → place < length behind
    → IsSumBehind (10 ^ 15) item (length plan.names - (place + 1)) (drop (length plan.names - (place + 1)) plan.parents) (reverse (take (place + 1) (map f behind))) tallies → AreVolumeSums tallies
volume_turn_fits f item place plan behind tallies few whole within sum =
    volume_sums_fit item (length plan.names - (place + 1)) (drop (length plan.names - (place + 1)) plan.parents) (reverse (take (place + 1) (map f behind))) tallies (omega arith) (omega (arith, length-drop (length plan.names - (place + 1)) plan.parents)) sum

-- the cells of a sum behind an item, and its number of leaves
pub sum_is_known : (most item : ℕ) (plan : PlanShape) (lists : List (List Cell)) (tallies : List Tally) → item < length plan.parents → list_any (is_parent item) (drop (suc item) plan.parents) ≡ true → All IsFlow (cells_of tallies)
    → IsSumBehind most item (suc item) (drop (suc item) plan.parents) lists tallies → AreItemCells most (length (leaves_under plan item)) (cells_of tallies)
sum_is_known most item plan lists tallies inside inner flows sum =
    record { few = omega (arith, cells_few tallies, sum.room); flows = flows; sizes = λ t. subst (λ (n : ℕ). IsSizedCell (most * n) (cell_at (cells_of tallies) t)) (sym (ap length (leaves_of_inner plan item inside inner))) (sum_sized (most * number_of (of_children item (drop (suc item) plan.parents) (leaves_from (suc item) (drop (suc item) plan.parents)))) tallies sum.sizes t) }

-- a table behind is that of its item
item_behind : (value_at : Kind → ℕ → ℕ → Option ℤ) (plan : PlanShape) (first : ℕ) (tables : List Table) (k : ℕ) (d : Table) → AreLastItems value_at plan first tables → k < length tables → get_or tables k d ≡ item_table value_at plan (length plan.names - 1 - k)
item_behind value_at plan first tables k d last within =
    let long : length (reverse tables) ≡ length tables = length-reverse tables in
    let turned : get_or tables k d ≡ get_or (reverse tables) (length (reverse tables) - 1 - k) d =
    ap (λ (l : List Table). get_or l k d) (sym (reverse-reverse tables)) ∙ get_or-reverse (reverse tables) k d (omega (arith, long, within)) in
    turned ∙ ap (λ (n : ℕ). get_or (reverse tables) (n - 1 - k) d) long ∙ ap (λ (l : List Table). get_or l (length tables - 1 - k) d) last.made
    ∙ get_or-map-range_with_len (item_table value_at plan) first (length tables) (length tables - 1 - k) (length plan.names - 1 - k) d (omega arith) (omega (arith, last.whole))

-- so what is known of it is known of its cells
pub cells_behind : {X : Type 0} (f : X → Table) (g : Table → List Cell) (most : ℕ) (value_at : Kind → ℕ → ℕ → Option ℤ) (plan : PlanShape) (first : ℕ) (behind : List X) → AreLastItems value_at plan first (map f behind)
    → ((item : ℕ) → IsKnownItem (length (leaves_under plan item)) (item_table value_at plan item) → AreItemCells most (length (leaves_under plan item)) (g (item_table value_at plan item)))
    → (k : ℕ) → k < length behind → AreItemCells most (length (leaves_under plan (length plan.names - 1 - k))) (get_or (map (λ x. g (f x)) behind) k [])
cells_behind f g most value_at plan first behind last known k within =
    let count : length (map f behind) ≡ length behind = length-map behind f in
    let item : ℕ = length plan.names - 1 - k in
    let d : Table = item_table value_at plan item in
    let table : get_or (map f behind) k d ≡ d = item_behind value_at plan first (map f behind) k d last (omega arith) in
    let cells : get_or (map (λ x. g (f x)) behind) k [] ≡ g d = sym (ap (λ (l : List (List Cell)). get_or l k []) (map-map g f behind)) ∙ get_or-map g (map f behind) k d [] (omega arith) ∙ ap g table in
    subst (λ (l : List Cell). AreItemCells most (length (leaves_under plan item)) l) (sym cells) (known item (last.known item (omega (arith, last.whole)) (omega (arith, last.whole))))

-- an item's cells are the sums over the leaves under it, a leaf's own too
pub cells_over_leaves : (g : Table → List Cell) (value_at : Kind → ℕ → ℕ → Option ℤ) (plan : PlanShape) (item : ℕ) → item < length plan.parents
    → (is_leaf plan item ≡ true → All IsFlow (g (item_table value_at plan item)))
    → (is_leaf plan item ≡ false → g (item_table value_at plan item) ≡ added (map (λ leaf. g (table_of_leaf value_at plan.reference leaf)) (leaves_under plan item)))
    → g (item_table value_at plan item) ≡ added (map (λ leaf. g (table_of_leaf value_at plan.reference leaf)) (leaves_under plan item))
cells_over_leaves g value_at plan item inside flows inner = by_leaf (is_leaf plan item) refl
  where
    by_leaf : (b : Bool) → is_leaf plan item ≡ b → g (item_table value_at plan item) ≡ added (map (λ leaf. g (table_of_leaf value_at plan.reference leaf)) (leaves_under plan item))
    by_leaf false e = inner e
    by_leaf true e =
        let own : item_table value_at plan item ≡ table_of_leaf value_at plan.reference item = sym (leaf_is_item value_at plan item e) in
        sym (leaf_alone (g (item_table value_at plan item)) (flows e)) ∙ ap (λ (t : Table). added (g t ∷ [])) own
        ∙ ap (λ (leaves : List ℕ). added (map (λ leaf. g (table_of_leaf value_at plan.reference leaf)) leaves)) (sym (leaf_of_itself plan item inside e))

pub value_over_leaves : (value_at : Kind → ℕ → ℕ → Option ℤ) (plan : PlanShape) (leaves item : ℕ) → item < length plan.parents → IsKnownItem leaves (item_table value_at plan item)
    → (item_table value_at plan item).value ≡ added (values_of_leaves value_at plan.reference (leaves_under plan item))
value_over_leaves value_at plan leaves item inside known = cells_over_leaves (λ t. t.value) value_at plan item inside (λ e. known.value.flows) (λ e. rw e refl)

pub prev_over_leaves : (value_at : Kind → ℕ → ℕ → Option ℤ) (plan : PlanShape) (leaves item : ℕ) → item < length plan.parents → IsKnownItem leaves (item_table value_at plan item)
    → (item_table value_at plan item).prev ≡ added (volumes_of_leaves value_at plan.reference (leaves_under plan item))
prev_over_leaves value_at plan leaves item inside known = cells_over_leaves (λ t. t.prev) value_at plan item inside (λ e. known.prev.flows) (λ e. rw e refl)

-- so the cells of the items from one on are the sums over the leaves under each
pub lists_over_leaves : (cells leaf_cells : ℕ → List Cell) (plan : PlanShape) (first count : ℕ) → first + count ≡ length plan.parents
    → ((item : ℕ) → first ≤ item → item < length plan.parents → cells item ≡ added (map leaf_cells (leaves_under plan item)))
    → map cells (range_with_len first count) ≡ map (λ leaves. added (map leaf_cells leaves)) (leaves_from first (drop first plan.parents))
unfolding leaves_from
lists_over_leaves cells leaf_cells plan first zero whole each = rw (drop_past first plan.parents (omega arith)) refl
lists_over_leaves cells leaf_cells plan first (suc count) whole each =
    let parents : List (Option ℕ) = drop (suc first) plan.parents in
    let next : first + 1 ≡ suc first = omega arith in
    let rest = lists_over_leaves cells leaf_cells plan (suc first) count (omega arith) (λ item above below. each item (omega arith) below) in
    let here : drop first plan.parents ≡ get_or plan.parents first None ∷ parents = parents_from_item plan.parents first (omega arith) in
    let own : cells first ≡ added (map leaf_cells (leaves_of first (of_children first parents (leaves_from (suc first) parents)))) =
    each first (omega arith) (omega arith) ∙ ap (λ (leaves : List ℕ). added (map leaf_cells leaves)) (leaves_under_item plan first (omega arith)) in
    rw (here, next) (ap (λ (l : List Cell). l ∷ map cells (range_with_len (suc first) count)) own
    ∙ ap (λ (ls : List (List Cell)). added (map leaf_cells (leaves_of first (of_children first parents (leaves_from (suc first) parents)))) ∷ ls) rest)

-- the lists of the tables behind, in the items' order
lists_behind : {X : Type 0} (f : X → Table) (g : Table → List Cell) (value_at : Kind → ℕ → ℕ → Option ℤ) (plan : PlanShape) (first : ℕ) (behind : List X) → AreLastItems value_at plan first (map f behind)
    → reverse (map (λ x. g (f x)) behind) ≡ map (λ item. g (item_table value_at plan item)) (range_with_len first (length behind))
lists_behind f g value_at plan first behind last =
    ap reverse (sym (map-map g f behind)) ∙ reverse-map g (map f behind) ∙ ap (map g) last.made ∙ map-map g (item_table value_at plan) (range_with_len first (length (map f behind)))
    ∙ ap (λ (n : ℕ). map (λ item. g (item_table value_at plan item)) (range_with_len first n)) (length-map behind f)

-- the leaves of lists of leaves
pub leaf_lists : (leaf_cells : ℕ → List Cell) (lists : List (List ℕ)) → all_leaves (map (λ leaves. map leaf_cells leaves) lists) ≡ map leaf_cells (flat_map (λ leaves. leaves) lists)
leaf_lists leaf_cells [] = refl
leaf_lists leaf_cells (leaves ∷ lists) =
    ap (λ (ls : List (List Cell)). map leaf_cells leaves ++ ls) (leaf_lists leaf_cells lists) ∙ sym (map-append leaf_cells leaves (flat_map (λ l. l) lists))

pub lists_have_leaves : (leaf_cells : ℕ → List Cell) (lists : List (List ℕ)) → AllByRecursion (λ leaves. 0 < length leaves) lists → All HasLeaf (map (λ leaves. map leaf_cells leaves) lists)
lists_have_leaves leaf_cells [] each k d below = absurd (omega arith)
lists_have_leaves leaf_cells (leaves ∷ lists) each zero d below = omega (arith, each.0, length-map leaves leaf_cells)
lists_have_leaves leaf_cells (leaves ∷ lists) each (suc k) d below = lists_have_leaves leaf_cells lists each.1 k d (omega arith)

-- what the children of an item have, as lists over the leaves under each
pub record AreChildLists (plan : PlanShape) (item : ℕ) (leaf_cells : ℕ → List Cell) (tallies : List Tally) : Type 0 where
  pub children : List (List (List Cell))
  pub leaves : All HasLeaf children
  pub sum : IsSumOf (map added children) tallies
  pub all : all_leaves children ≡ map leaf_cells (leaves_under plan item)

child_lists : {X : Type 0} (f : X → Table) (g : Table → List Cell) (most : ℕ) (value_at : Kind → ℕ → ℕ → Option ℤ) (plan : PlanShape) (item : ℕ) (behind : List X) (tallies : List Tally) → item < length plan.parents → length plan.parents ≡ length plan.names
    → list_any (is_parent item) (drop (suc item) plan.parents) ≡ true → AreLastItems value_at plan (suc item) (map f behind)
    → ((other : ℕ) → suc item ≤ other → other < length plan.parents → g (item_table value_at plan other) ≡ added (map (λ leaf. g (table_of_leaf value_at plan.reference leaf)) (leaves_under plan other)))
    → IsSumBehind most item (suc item) (drop (suc item) plan.parents) (reverse (map (λ x. g (f x)) behind)) tallies
    → AreChildLists plan item (λ leaf. g (table_of_leaf value_at plan.reference leaf)) tallies
child_lists f g most value_at plan item behind tallies inside count inner last each sum =
    let leaf_cells : ℕ → List Cell = λ leaf. g (table_of_leaf value_at plan.reference leaf) in
    let parents : List (Option ℕ) = drop (suc item) plan.parents in
    let kids : List (List ℕ) = of_children item parents (leaves_from (suc item) parents) in
    let whole : suc item + length behind ≡ length plan.parents = omega (arith, last.whole, length-map behind f) in
    let listed : reverse (map (λ x. g (f x)) behind) ≡ map (λ leaves. added (map leaf_cells leaves)) (leaves_from (suc item) parents) =
    lists_behind f g value_at plan (suc item) behind last ∙ lists_over_leaves (λ other. g (item_table value_at plan other)) leaf_cells plan (suc item) (length behind) whole each in
    let summed : of_children item parents (reverse (map (λ x. g (f x)) behind)) ≡ map added (map (λ leaves. map leaf_cells leaves) kids) =
    ap (of_children item parents) listed ∙ of_children-map (λ leaves. added (map leaf_cells leaves)) item parents (leaves_from (suc item) parents) ∙ sym (map-map added (λ leaves. map leaf_cells leaves) kids) in
    record {
      children = map (λ leaves. map leaf_cells leaves) kids;
      leaves = lists_have_leaves leaf_cells kids (children_have_leaves item (suc item) parents);
      sum = subst (λ (lists : List (List Cell)). IsSumOf lists tallies) summed sum.sum;
      all = leaf_lists leaf_cells kids ∙ ap (map leaf_cells) (sym (leaves_of_inner plan item inside inner));
    }

pub value_lists : {X : Type 0} (f : X → Table) (value_at : Kind → ℕ → ℕ → Option ℤ) (plan : PlanShape) (item : ℕ) (behind : List X) (tallies : List Tally) → item < length plan.parents → length plan.parents ≡ length plan.names
    → list_any (is_parent item) (drop (suc item) plan.parents) ≡ true → AreLastItems value_at plan (suc item) (map f behind)
    → IsSumBehind (10 ^ 24) item (suc item) (drop (suc item) plan.parents) (reverse (map (λ x. (f x).value) behind)) tallies
    → AreChildLists plan item (λ leaf. (table_of_leaf value_at plan.reference leaf).value) tallies
value_lists f value_at plan item behind tallies inside count inner last sum =
    child_lists f (λ t. t.value) (10 ^ 24) value_at plan item behind tallies inside count inner last
    (λ other above below. value_over_leaves value_at plan (length (leaves_under plan other)) other below (last.known other above (omega arith))) sum

pub prev_lists : {X : Type 0} (f : X → Table) (value_at : Kind → ℕ → ℕ → Option ℤ) (plan : PlanShape) (item : ℕ) (behind : List X) (tallies : List Tally) → item < length plan.parents → length plan.parents ≡ length plan.names
    → list_any (is_parent item) (drop (suc item) plan.parents) ≡ true → AreLastItems value_at plan (suc item) (map f behind)
    → IsSumBehind (10 ^ 15) item (suc item) (drop (suc item) plan.parents) (reverse (map (λ x. (f x).prev) behind)) tallies
    → AreChildLists plan item (λ leaf. (table_of_leaf value_at plan.reference leaf).prev) tallies
prev_lists f value_at plan item behind tallies inside count inner last sum =
    child_lists f (λ t. t.prev) (10 ^ 15) value_at plan item behind tallies inside count inner last
    (λ other above below. prev_over_leaves value_at plan (length (leaves_under plan other)) other below (last.known other above (omega arith))) sum

-- the table over the leaves under an inner item is the item's
pub inner_is_item : (value_at : Kind → ℕ → ℕ → Option ℤ) (plan : PlanShape) (item : ℕ) (values volumes : List (List Cell)) → is_leaf plan item ≡ false
    → values ≡ values_of_leaves value_at plan.reference (leaves_under plan item) → volumes ≡ volumes_of_leaves value_at plan.reference (leaves_under plan item)
    → inner_table values volumes plan.reference ≡ item_table value_at plan item
inner_is_item value_at plan item values volumes inner e_values e_volumes = rw (inner, e_values, e_volumes) refl

-- behind the last item no table is made
pub last_none : (value_at : Kind → ℕ → ℕ → Option ℤ) (plan : PlanShape) (first : ℕ) → first ≡ length plan.names → AreLastItems value_at plan first []
last_none value_at plan first all = record { whole = omega arith; made = refl; known = λ item above below. absurd (omega (arith, all, above, below)) }

-- one more item before them
pub last_more : (value_at : Kind → ℕ → ℕ → Option ℤ) (plan : PlanShape) (next item : ℕ) (tables : List Table) (table : Table) → next ≡ suc item → table ≡ item_table value_at plan item → IsKnownItem (length (leaves_under plan item)) table
    → AreLastItems value_at plan next tables → AreLastItems value_at plan item (tables ++ table ∷ [])
last_more value_at plan next item tables table e_next is known last = record { whole = whole; made = made; known = known_from }
  where
    long : length (tables ++ table ∷ []) ≡ suc (length tables)
    long = length-append tables (table ∷ []) ∙ (let more : length tables + 1 ≡ suc (length tables) = omega arith in more)

    whole : item + length (tables ++ table ∷ []) ≡ length plan.names
    whole = omega (arith, long, last.whole, e_next)

    next_item : next ≡ item + 1
    next_item = omega (arith, e_next)

    made : reverse (tables ++ table ∷ []) ≡ map (item_table value_at plan) (range_with_len item (length (tables ++ table ∷ [])))
    made =
        reverse-append tables (table ∷ []) ∙ ap (λ (l : List Table). table ∷ l) last.made ∙ ap (λ (t : Table). t ∷ map (item_table value_at plan) (range_with_len next (length tables))) is
        ∙ ap (λ (n : ℕ). item_table value_at plan item ∷ map (item_table value_at plan) (range_with_len n (length tables))) next_item
        ∙ ap (λ (n : ℕ). map (item_table value_at plan) (range_with_len item n)) (sym long)

    known_from : (other : ℕ) → item ≤ other → other < length plan.names → IsKnownItem (length (leaves_under plan other)) (item_table value_at plan other)
    known_from other above below = elim (cases_lt item other) [
      | inl behind ↦ last.known other (omega (arith, e_next)) below
      | inr here ↦
          let same : item ≡ other = omega arith in
          subst (λ (n : ℕ). IsKnownItem (length (leaves_under plan n)) (item_table value_at plan n)) same (subst (λ (t : Table). IsKnownItem (length (leaves_under plan item)) t) is known)
    ]

-- the tables of all items are the plan's
pub all_made : (value_at : Kind → ℕ → ℕ → Option ℤ) (plan : PlanShape) (first : ℕ) (tables : List Table) → first ≡ 0 → AreLastItems value_at plan first tables → reverse tables ≡ item_tables value_at plan
all_made value_at plan first tables none last =
    let whole : length tables ≡ length plan.names = omega (arith, last.whole, none) in
    last.made ∙ ap (λ (n : ℕ). map (item_table value_at plan) (range_with_len n (length tables))) none ∙ ap (λ (n : ℕ). map (item_table value_at plan) (range_with_len 0 n)) whole

-- what is known of each item holds of all
pub all_known : (P : Table → Type 0) (value_at : Kind → ℕ → ℕ → Option ℤ) (plan : PlanShape) (first : ℕ) (tables made : List Table) → first ≡ 0 → AreLastItems value_at plan first tables → made ≡ item_tables value_at plan
    → ((leaves : ℕ) (table : Table) → IsKnownItem leaves table → P table) → All P made
all_known P value_at plan first tables made none last is gives =
    subst (All P) (sym is)
    (All-map P (item_table value_at plan) (range_with_len 0 (length plan.names)) (λ k d below.
    let inside : k < length plan.names = omega (arith, length-range_with_len 0 (length plan.names)) in
    subst (λ (n : ℕ). P (item_table value_at plan n)) (sym (get_or-range_with_len 0 (length plan.names) k d inside))
    (gives (length (leaves_under plan (0 + k))) (item_table value_at plan (0 + k)) (last.known (0 + k) (omega (arith, none)) (omega arith)))))

-- every item of a plan is truly chained
pub item_chained : (value_at : Kind → ℕ → ℕ → Option ℤ) (plan : PlanShape) (item : ℕ) → IsTrulyChained plan.reference (item_table value_at plan item)
item_chained value_at plan item = by_leaf (is_leaf plan item)
  where
    by_leaf : (b : Bool) → IsTrulyChained plan.reference (cond b (table_of_leaf value_at plan.reference item)
        (inner_table (values_of_leaves value_at plan.reference (leaves_under plan item)) (volumes_of_leaves value_at plan.reference (leaves_under plan item)) plan.reference))
    by_leaf true = leaf_chained _ _ _ plan.reference
    by_leaf false = table_chained None (added (values_of_leaves value_at plan.reference (leaves_under plan item))) (added (volumes_of_leaves value_at plan.reference (leaves_under plan item))) plan.reference

pub all_chained : (value_at : Kind → ℕ → ℕ → Option ℤ) (plan : PlanShape) → All (IsTrulyChained plan.reference) (item_tables value_at plan)
all_chained value_at plan = All-map (IsTrulyChained plan.reference) (item_table value_at plan) (range_with_len 0 (length plan.names)) (λ k d below. item_chained value_at plan (get_or (range_with_len 0 (length plan.names)) k d))
