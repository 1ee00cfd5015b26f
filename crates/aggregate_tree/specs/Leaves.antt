-- An item's cells are sums over the leaves under it, quarter by quarter: where all leaves have a value the sum of the
-- values, else the first mark that occurs. Volumes at previous-year prices are additive (chapter 8 of the IMF Quarterly
-- National Accounts Manual, 2017); the marks and the treatment of shorter leaves are this product's own.
use Rattle.std.specs.Prelude.{◌≡◌, ℕ, ◌<◌, max, List, [], ◌∷◌, map, length}
use Rattle.std.specs.List.{All, range_with_len, flat_map}
use Rattle.price_base.specs.declared.Cell.{Cell}
use Rattle.price_base.specs.Cells.{cell_at, combined, IsFlow}

-- the cells of one quarter, one for each list; a shorter list's is missing
abbrev pub cells_at : List (List Cell) → ℕ → List Cell
cells_at lists t = map (λ cells. cell_at cells t) lists

-- the length of the longest list; without lists it is none
abbrev pub longest : List (List Cell) → ℕ
longest [] = 0
longest (cells ∷ lists) = max (length cells) (longest lists)

-- the sum of lists of cells, as long as the longest
unfoldable pub added : List (List Cell) → List Cell
added lists = map (λ t. combined (cells_at lists t)) (range_with_len 0 (longest lists))

-- a list of leaves that has one
abbrev pub HasLeaf : List (List Cell) → Type 0
HasLeaf leaves = 0 < length leaves

-- the leaves under children: those under the first, then those under the second, and so on
abbrev pub all_leaves : List (List (List Cell)) → List (List Cell)
all_leaves children = flat_map (λ leaves. leaves) children

-- adding up children, each of which is the sum over the leaves under it, gives the sum over all these leaves
abbrev pub IsSumOverLeaves : Type 0
IsSumOverLeaves =
    (children : List (List (List Cell)))
    → All HasLeaf children → added (map added children) ≡ added (all_leaves children)

-- a leaf is the sum over itself
abbrev pub IsOwnSum : Type 0
IsOwnSum = (cells : List Cell) → All IsFlow cells → added (cells ∷ []) ≡ cells
