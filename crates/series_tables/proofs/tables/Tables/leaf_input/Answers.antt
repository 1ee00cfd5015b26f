use Rattle.std.proofs.Common.{◌≡◌, ℕ, ℤ, ◌*◌, ◌/◌, ◌<◌, ◌≤◌, ◌∙◌, ap, length, take, drop, List, Option, All, vec_len, subst, sym, arith}
use Rattle.series_tables.specs.Cells.{Rows, cell, present_run, IsInputOf}
use Rattle.series_tables.specs.Ranges.{IsPositiveInRange, IsPositiveOrNone, IsBenchmarkOrNone}
use Rattle.series_tables.proofs.Rows.{input_of_rows, all_present}
use Rattle.std.proofs.lemmas.List.Elements.{All-take, All-drop}
use Rattle.series_tables.proofs.tables.Tables.leaf_input.Goals as goal

pub row-requires-2 : goal.row-requires-2
row-requires-2 c =
    let below : c.args.leaf < c.self.inside.items = subst (λ (rows : Rows). c.args.leaf < rows.items) (sym c.self.view_is) c.requires in
    let there : length c.self.inside.prices.items ≡ c.self.inside.items * 256 = c.self.invariant.priced in
    let few : vec_len c.in_ok-ind.ind ≤ length c.row.result.now = c.in_ok-ind.ensures.bound in
    let row : length c.row.result.now ≡ 256 = c.row.ensures.len in
    rw c.deref-2.ensures.value (omega arith)

pub row-requires-3 : goal.row-requires-3
row-requires-3 c =
    let below : c.args.leaf < c.self.inside.items = subst (λ (rows : Rows). c.args.leaf < rows.items) (sym c.self.view_is) c.requires in
    let there : length c.self.inside.benchmarks.items ≡ c.self.inside.items * 64 = c.self.invariant.years in
    let few : vec_len c.in_ok-ind.ind ≤ length c.row.result.now = c.in_ok-ind.ensures.bound in
    let row : length c.row.result.now ≡ 256 = c.row.ensures.len in
    rw c.deref-3.ensures.value (omega arith)

pub invariant_of-result-clause-indicators : goal.invariant_of-result-clause-indicators
invariant_of-result-clause-indicators c =
    let run : c.in_ok-ind.ind.items ≡ present_run (take 256 (drop (c.args.leaf * 256) c.self.inside.indicators.items)) =
    c.in_ok-ind.ensures.run ∙ ap present_run (c.row.ensures.row ∙ ap (λ rows. take 256 (drop (c.args.leaf * 256) rows)) c.deref.ensures.value) in
    subst (λ (items : List ℕ). All IsPositiveInRange items) (sym run)
    (all_present _ (All-take IsPositiveOrNone 256 _ (All-drop IsPositiveOrNone (c.args.leaf * 256) _ c.self.invariant.indicators_in_range)))

pub invariant_of-result-clause-prices : goal.invariant_of-result-clause-prices
invariant_of-result-clause-prices c =
    let priced : c.in_ok-price.price.items ≡ take c.len.result (drop (c.args.leaf * 256) c.self.inside.prices.items) =
    c.in_ok-price.ensures.items ∙ c.row-2.ensures.row ∙ ap (λ rows. take c.len.result (drop (c.args.leaf * 256) rows)) c.deref-2.ensures.value in
    subst (λ (items : List (Option ℕ)). All IsPositiveOrNone items) (sym priced)
    (All-take IsPositiveOrNone c.len.result _ (All-drop IsPositiveOrNone (c.args.leaf * 256) _ c.self.invariant.prices_in_range))

pub invariant_of-result-clause-benchmarks : goal.invariant_of-result-clause-benchmarks
invariant_of-result-clause-benchmarks c =
    let benchmarked : c.in_ok-bench.bench.items ≡ take (c.len-2.result / 4) (drop (c.args.leaf * 64) c.self.inside.benchmarks.items) =
    c.in_ok-bench.ensures.items ∙ c.row-3.ensures.row ∙ ap (λ rows. take (c.len-2.result / 4) (drop (c.args.leaf * 64) rows)) c.deref-3.ensures.value in
    subst (λ (items : List (Option ℤ)). All IsBenchmarkOrNone items) (sym benchmarked)
    (All-take IsBenchmarkOrNone (c.len-2.result / 4) _ (All-drop IsBenchmarkOrNone (c.args.leaf * 64) _ c.self.invariant.benchmarks_in_range))

pub returns : goal.returns
returns c =
    let quarters : c.len.result ≡ length c.in_ok-ind.ind.items = omega arith in
    let again : c.len-2.result ≡ length c.in_ok-ind.ind.items = omega arith in
    subst (λ (rows : Rows). IsInputOf (λ kind period. cell rows kind c.args.leaf period) c.in_ok-ind.ind.items c.in_ok-price.price.items c.in_ok-bench.bench.items) c.self.view_is
    (input_of_rows c.self.inside.items c.args.leaf c.self.inside.indicators.items c.self.inside.prices.items c.self.inside.benchmarks.items c.self.invariant
    (subst (λ (rows : Rows). c.args.leaf < rows.items) (sym c.self.view_is) c.requires)
    c.in_ok-ind.ind.items c.in_ok-price.price.items c.in_ok-bench.bench.items
    (c.in_ok-ind.ensures.run ∙ ap present_run (c.row.ensures.row ∙ ap (λ rows. take 256 (drop (c.args.leaf * 256) rows)) c.deref.ensures.value))
    (omega arith)
    (c.in_ok-price.ensures.items ∙ c.row-2.ensures.row ∙ ap (λ n. take n (drop (c.args.leaf * 256) c.deref-2.result.now)) quarters
    ∙ ap (λ rows. take (length c.in_ok-ind.ind.items) (drop (c.args.leaf * 256) rows)) c.deref-2.ensures.value)
    (c.in_ok-bench.ensures.items ∙ c.row-3.ensures.row ∙ ap (λ n. take (n / 4) (drop (c.args.leaf * 64) c.deref-3.result.now)) again
    ∙ ap (λ rows. take (length c.in_ok-ind.ind.items / 4) (drop (c.args.leaf * 64) rows)) c.deref-3.ensures.value))
