-- The text of a release.
use Rattle.std.specs.Prelude.{ℕ, ◌+◌, List, [], ◌∷◌, ◌++◌, length, codes, decimal, Option, Some, None}
use Rattle.std.specs.Fmt.{signed_decimal}
use Rattle.period_keys.specs.Period.{quarter_text, year_text}
use Rattle.price_base.specs.declared.Cell.{Cell}
use Rattle.price_base.specs.declared.Cell.TheVariants.{Missing, Value, NoBase, NoLink, Range}
use Rattle.series_tables.specs.Plan.{PlanShape}
use Rattle.cert_read.specs.Content.{quarter_from}
use Rattle.node_compile.specs.Table.{Certificate, Table}
use Rattle.release_print.specs.Line.{line_text, name_of, edge_line}

-- a cell: its number, or the word of its mark
abbrev pub cell_text : Cell → List ℕ
cell_text Missing = codes "missing"
cell_text (Value number) = signed_decimal number
cell_text NoBase = codes "nobase"
cell_text NoLink = codes "nolink"
cell_text Range = codes "range"

-- the line of one cell of an item, of a quarter counted from the start year's first on; the line's word tells values,
-- volumes and chained volumes apart
abbrev pub cell_line : List ℕ → ℕ → List ℕ → ℕ → Cell → List ℕ
cell_line word start name quarter cell =
    line_text word (name ∷ quarter_text (quarter_from start quarter) ∷ cell_text cell ∷ [])

-- the lines of cells, from a quarter on
abbrev pub cell_lines : List ℕ → ℕ → List ℕ → ℕ → List Cell → List ℕ
cell_lines word start name quarter [] = []
cell_lines word start name quarter (cell ∷ cells) =
    cell_line word start name quarter cell ++ cell_lines word start name (quarter + 1) cells

-- the lines of an item's values, in whole currency units
abbrev pub value_lines : ℕ → List ℕ → List Cell → List ℕ
value_lines start name values = cell_lines (codes "v") start name 0 values

-- the lines of its volumes at previous-year prices, in whole currency units
abbrev pub volume_lines : ℕ → List ℕ → List Cell → List ℕ
volume_lines start name volumes = cell_lines (codes "k") start name 0 volumes

-- the lines of its chained volumes, in ten-thousandths of a currency unit
abbrev pub chain_lines : ℕ → List ℕ → List Cell → List ℕ
chain_lines start name chained = cell_lines (codes "c") start name 0 chained

-- the lines of an item's quarters: those of all its values, then of all its volumes, then of all its chained volumes
abbrev pub quarter_lines : ℕ → List ℕ → List Cell → List Cell → List Cell → List ℕ
quarter_lines start name values volumes chained =
    value_lines start name values ++ (volume_lines start name volumes ++ chain_lines start name chained)

-- the line of a year of an item: its value and its volume at previous-year prices, in whole currency units, then its
-- level, which is its chained volume, and the level's drift, how far it is at most from the exact one, both in
-- ten-thousandths of a currency unit
abbrev pub year_line : ℕ → List ℕ → Cell → Cell → Cell → Cell → List ℕ
year_line year name value volume level drift = line_text (codes "a")
    (name ∷ year_text year ∷ cell_text value ∷ cell_text volume ∷ cell_text level ∷ cell_text drift ∷ [])

-- the lines of an item's years, from a year on
abbrev pub year_lines : ℕ → List ℕ → List Cell → List Cell → List Cell → List Cell → List ℕ
year_lines year name (value ∷ values) (volume ∷ volumes) (level ∷ levels) (drift ∷ drifts) =
    year_line year name value volume level drift ++ year_lines (year + 1) name values volumes levels drifts
year_lines year name _ _ _ _ = []

-- the line of a leaf with benchmarked years: how many they are, the scale and the gap. Other items have none
abbrev pub gap_line : List ℕ → Option Certificate → List ℕ
gap_line name None = []
gap_line name (Some certificate) = line_text (codes "g")
    (name ∷ decimal (length certificate.benchmarks) ∷ decimal certificate.scale ∷ signed_decimal certificate.gap ∷ [])

-- the lines of an item: those of its quarters, then those of the years that have one of them, and its gap
abbrev pub item_lines : ℕ → List ℕ → Table → List ℕ
item_lines start name table =
    quarter_lines start name table.value table.prev table.chain.quarter
    ++ (year_lines start name table.chain.value table.chain.prev table.chain.level table.chain.drift
    ++ gap_line name table.leaf)

-- the lines of these items, each with its table
abbrev pub items_lines : ℕ → List (List ℕ) → List Table → List ℕ
items_lines start (name ∷ names) (table ∷ tables) = item_lines start name table ++ items_lines start names tables
items_lines start _ _ = []

-- the release of a front: the lines of the plan's items, in the plan's order, between its first line and its last
unfoldable pub release_text : PlanShape → ℕ → List Table → List ℕ
release_text plan front tables =
    edge_line (codes "release") front ++ (items_lines plan.start plan.names tables ++ edge_line (codes "end") front)

-- the block of the item of a number at a front: that item's lines, between the first line of a release and its last
unfoldable pub node_text : PlanShape → ℕ → ℕ → Table → List ℕ
node_text plan front item table =
    edge_line (codes "release") front
    ++ (item_lines plan.start (name_of plan.names item) table ++ edge_line (codes "end") front)
