-- The lines of numbers from a place on: where a part of the next line is written, a part of all lines is.
use Rattle.std.proofs.Common.{◌≡◌, ℕ, ℤ, pos, ◌+◌, ◌<◌, ◌≤◌, List, [], ◌∷◌, ◌++◌, map, length, drop, get_or}
use Rattle.std.proofs.Common.{Some, refl, ap, arith}
use Rattle.std.specs.List.{slice_get}
use Rattle.std.proofs.lemmas.List.{drop_all}
use Rattle.std.proofs.lemmas.Option.{slice_get_within, get_or_from_slice_get}
use Rattle.node_compile.specs.Table.{Table}
use Rattle.price_base.specs.declared.Cell.{Cell}
use Rattle.cert_read.specs.Statement.{Statement, indicator_line, value_line}
use Rattle.cert_read.specs.Content.{quarter_from, quarterly, yearly}
use Rattle.node_compile.specs.Laws.{number_in, numbers_in}
use Rattle.release_print.specs.Part.{AppendsPart}
use Rattle.release_print.specs.Release.{cell_line, cell_lines, year_line, year_lines, item_lines, items_lines}
use Rattle.release_print.specs.Certificate.{statement_text, statements_text}
use Rattle.release_print.proofs.Parts.{Wrote, wrote_some, wrote_more, from_place}

-- the items from a place on, by the item that stands there
pub drop-get : {A : Type 0} (xs : List A) (i : ℕ) (x : A) → slice_get xs i ≡ Some x → drop i xs ≡ x ∷ drop (i + 1) xs
drop-get xs i x e = rw (from_place xs i x (slice_get_within xs i x e), get_or_from_slice_get xs i x x e) refl

pub indicators_part : (old mid new whole : List ℕ) (start i d : ℕ) (xs : List ℕ) → i < length xs → Wrote old mid (statements_text (quarterly indicator_line start i (map pos (drop i xs)))) whole → AppendsPart mid new (statement_text (indicator_line (quarter_from start i) (pos (get_or xs i d)))) → AppendsPart old new whole
indicators_part old mid new whole start i d xs inside w p =
    wrote_some old mid new (statement_text (indicator_line (quarter_from start i) (pos (get_or xs i d)))) (statements_text (quarterly indicator_line start i (map pos (drop i xs)))) (statements_text (quarterly indicator_line start (i + 1) (map pos (drop (i + 1) xs)))) whole w (rw (from_place xs i d inside) refl) p

pub values_part : (old mid new whole : List ℕ) (start i : ℕ) (d : Cell) (xs : List Cell) → i < length xs → Wrote old mid (statements_text (quarterly value_line start i (numbers_in (drop i xs)))) whole → AppendsPart mid new (statement_text (value_line (quarter_from start i) (number_in (get_or xs i d)))) → AppendsPart old new whole
values_part old mid new whole start i d xs inside w p =
    wrote_some old mid new (statement_text (value_line (quarter_from start i) (number_in (get_or xs i d)))) (statements_text (quarterly value_line start i (numbers_in (drop i xs)))) (statements_text (quarterly value_line start (i + 1) (numbers_in (drop (i + 1) xs)))) whole w (rw (from_place xs i d inside) refl) p

-- the lines of the years from one on are that of the year there and those of the years behind it
yearly_next : (line : ℕ → ℤ → Statement) (start i place : ℕ) (d : ℤ) (places : List ℕ) (xs : List ℤ) →
    i < length places → place ≡ get_or places i 0 → i < length xs →
    yearly line start (drop i places) (drop i xs)
    ≡ line (start + place) (get_or xs i d) ∷ yearly line start (drop (i + 1) places) (drop (i + 1) xs)
yearly_next line start i place d places xs there here inside =
    rw (from_place places i 0 there, from_place xs i d inside, here) refl

-- where a part of the next year's line is written, a part of all lines is
pub yearly_part : (line : ℕ → ℤ → Statement) (old mid new whole : List ℕ) (start i place : ℕ) (d : ℤ)
    (places : List ℕ) (xs : List ℤ) → i < length places → place ≡ get_or places i 0 → i < length xs →
    Wrote old mid (statements_text (yearly line start (drop i places) (drop i xs))) whole →
    AppendsPart mid new (statement_text (line (start + place) (get_or xs i d))) → AppendsPart old new whole
yearly_part line old mid new whole start i place d places xs there here inside w part =
    wrote_some old mid new (statement_text (line (start + place) (get_or xs i d)))
    (statements_text (yearly line start (drop i places) (drop i xs)))
    (statements_text (yearly line start (drop (i + 1) places) (drop (i + 1) xs))) whole w
    (ap statements_text (yearly_next line start i place d places xs there here inside)) part

-- one more year's line is written
pub yearly_more : (line : ℕ → ℤ → Statement) (old mid new whole : List ℕ) (start i place : ℕ) (d : ℤ)
    (places : List ℕ) (xs : List ℤ) → i < length places → place ≡ get_or places i 0 → i < length xs →
    Wrote old mid (statements_text (yearly line start (drop i places) (drop i xs))) whole →
    new ≡ mid ++ statement_text (line (start + place) (get_or xs i d)) →
    Wrote old new (statements_text (yearly line start (drop (i + 1) places) (drop (i + 1) xs))) whole
yearly_more line old mid new whole start i place d places xs there here inside w grown =
    wrote_more old mid new (statement_text (line (start + place) (get_or xs i d)))
    (statements_text (yearly line start (drop i places) (drop i xs)))
    (statements_text (yearly line start (drop (i + 1) places) (drop (i + 1) xs))) whole w
    (ap statements_text (yearly_next line start i place d places xs there here inside)) grown

-- no line is left where no number is
yearly_none : (line : ℕ → ℤ → Statement) (start : ℕ) (places : List ℕ) → yearly line start places [] ≡ []
yearly_none line start [] = refl
yearly_none line start (place ∷ places) = refl

pub yearly_done : (line : ℕ → ℤ → Statement) (start i : ℕ) (places : List ℕ) (xs : List ℤ) → length xs ≤ i →
    statements_text (yearly line start (drop i places) (drop i xs)) ≡ []
yearly_done line start i places xs done =
    rw (drop_all i xs done) (ap statements_text (yearly_none line start (drop i places)))

pub cells_part : (old mid new whole word name : List ℕ) (start i : ℕ) (d : Cell) (xs : List Cell) → i < length xs → Wrote old mid (cell_lines word start name i (drop i xs)) whole → AppendsPart mid new (cell_line word start name i (get_or xs i d)) → AppendsPart old new whole
cells_part old mid new whole word name start i d xs inside w p =
    wrote_some old mid new (cell_line word start name i (get_or xs i d)) (cell_lines word start name i (drop i xs)) (cell_lines word start name (i + 1) (drop (i + 1) xs)) whole w (rw (from_place xs i d inside) refl) p

-- the lines of the years from a place on are that of the year there and those of the years behind it
pub years_next : (start i : ℕ) (name : List ℕ) (a b c d : Cell) (values volumes levels drifts : List Cell) → i < length values → length volumes ≡ length values → length levels ≡ length values → length drifts ≡ length values → year_lines (start + i) name (drop i values) (drop i volumes) (drop i levels) (drop i drifts) ≡ year_line (start + i) name (get_or values i a) (get_or volumes i b) (get_or levels i c) (get_or drifts i d) ++ year_lines (start + (i + 1)) name (drop (i + 1) values) (drop (i + 1) volumes) (drop (i + 1) levels) (drop (i + 1) drifts)
years_next start i name a b c d values volumes levels drifts inside same_volumes same_levels same_drifts =
    let in_volumes : i < length volumes = omega arith in
    let in_levels : i < length levels = omega arith in
    let in_drifts : i < length drifts = omega arith in
    let next : start + (i + 1) ≡ start + i + 1 = omega arith in
    rw (next, from_place values i a inside, from_place volumes i b in_volumes, from_place levels i c in_levels, from_place drifts i d in_drifts) refl

pub years_part : (old mid new whole name : List ℕ) (start i : ℕ) (a b c d : Cell) (values volumes levels drifts : List Cell) → i < length values → length volumes ≡ length values → length levels ≡ length values → length drifts ≡ length values → Wrote old mid (year_lines (start + i) name (drop i values) (drop i volumes) (drop i levels) (drop i drifts)) whole → AppendsPart mid new (year_line (start + i) name (get_or values i a) (get_or volumes i b) (get_or levels i c) (get_or drifts i d)) → AppendsPart old new whole
years_part old mid new whole name start i a b c d values volumes levels drifts inside same_volumes same_levels same_drifts w p =
    wrote_some old mid new (year_line (start + i) name (get_or values i a) (get_or volumes i b) (get_or levels i c) (get_or drifts i d)) (year_lines (start + i) name (drop i values) (drop i volumes) (drop i levels) (drop i drifts)) (year_lines (start + (i + 1)) name (drop (i + 1) values) (drop (i + 1) volumes) (drop (i + 1) levels) (drop (i + 1) drifts)) whole w (years_next start i name a b c d values volumes levels drifts inside same_volumes same_levels same_drifts) p

-- one more year's line is written
pub years_more : (old mid new whole name : List ℕ) (start i : ℕ) (a b c d : Cell) (values volumes levels drifts : List Cell) → i < length values → length volumes ≡ length values → length levels ≡ length values → length drifts ≡ length values → Wrote old mid (year_lines (start + i) name (drop i values) (drop i volumes) (drop i levels) (drop i drifts)) whole → new ≡ mid ++ year_line (start + i) name (get_or values i a) (get_or volumes i b) (get_or levels i c) (get_or drifts i d) → Wrote old new (year_lines (start + (i + 1)) name (drop (i + 1) values) (drop (i + 1) volumes) (drop (i + 1) levels) (drop (i + 1) drifts)) whole
years_more old mid new whole name start i a b c d values volumes levels drifts inside same_volumes same_levels same_drifts w grown =
    wrote_more old mid new (year_line (start + i) name (get_or values i a) (get_or volumes i b) (get_or levels i c) (get_or drifts i d)) (year_lines (start + i) name (drop i values) (drop i volumes) (drop i levels) (drop i drifts)) (year_lines (start + (i + 1)) name (drop (i + 1) values) (drop (i + 1) volumes) (drop (i + 1) levels) (drop (i + 1) drifts)) whole w (years_next start i name a b c d values volumes levels drifts inside same_volumes same_levels same_drifts) grown

-- the lines of the items from a place on are those of the item there and of those behind it
pub items_next : {A : Type 0} (start item : ℕ) (names : List (List ℕ)) (name : List ℕ) (table_of : A → Table) (nodes : List A) (node : A) → slice_get names item ≡ Some name → item < length nodes → node ≡ get_or nodes item node → items_lines start (drop item names) (map table_of (drop item nodes)) ≡ item_lines start name (table_of node) ++ items_lines start (drop (item + 1) names) (map table_of (drop (item + 1) nodes))
items_next start item names name table_of nodes node named inside here =
    rw (from_place nodes item node inside, ← here, drop-get names item name named) refl

pub items_part : {A : Type 0} (old mid new whole : List ℕ) (start item : ℕ) (names : List (List ℕ)) (name : List ℕ) (table_of : A → Table) (nodes : List A) (node : A) → slice_get names item ≡ Some name → item < length nodes → node ≡ get_or nodes item node → Wrote old mid (items_lines start (drop item names) (map table_of (drop item nodes))) whole → AppendsPart mid new (item_lines start name (table_of node)) → AppendsPart old new whole
items_part old mid new whole start item names name table_of nodes node named inside here w p =
    wrote_some old mid new (item_lines start name (table_of node)) (items_lines start (drop item names) (map table_of (drop item nodes))) (items_lines start (drop (item + 1) names) (map table_of (drop (item + 1) nodes))) whole w (items_next start item names name table_of nodes node named inside here) p

-- one more item's lines are written
pub items_more : {A : Type 0} (old mid new whole : List ℕ) (start item : ℕ) (names : List (List ℕ)) (name : List ℕ) (table_of : A → Table) (nodes : List A) (node : A) → slice_get names item ≡ Some name → item < length nodes → node ≡ get_or nodes item node → Wrote old mid (items_lines start (drop item names) (map table_of (drop item nodes))) whole → new ≡ mid ++ item_lines start name (table_of node) → Wrote old new (items_lines start (drop (item + 1) names) (map table_of (drop (item + 1) nodes))) whole
items_more old mid new whole start item names name table_of nodes node named inside here w grown =
    wrote_more old mid new (item_lines start name (table_of node)) (items_lines start (drop item names) (map table_of (drop item nodes))) (items_lines start (drop (item + 1) names) (map table_of (drop (item + 1) nodes))) whole w (items_next start item names name table_of nodes node named inside here) grown
