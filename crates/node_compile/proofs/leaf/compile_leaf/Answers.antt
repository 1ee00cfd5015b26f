use Rattle.std.proofs.Common.{◌≡◌, ◌∙◌, ◌≤◌, ap, sym, subst, arith, List, Option, ℕ, ℤ, [], length}
use Rattle.node_compile.specs.Laws.{MeetsItsBenchmarks, IsWithinItsGap, IsGapWithinLimit}
use Rattle.node_compile.specs.Leaf.{places_from, present_benchmarks, missing_table, table_of_years, leaf_table}
use Rattle.node_compile.specs.Table.{Table, table_in}
use Rattle.node_compile.proofs.Outcomes.{if_ok, none_there}
use Rattle.node_compile.proofs.Places.{present_count}
use Rattle.node_compile.proofs.Worth.{leaf_steps, leaf_table_is, leaf_table_none, leaf_worth}
use Rattle.node_compile.proofs.leaf.compile_leaf.Goals as goal

pub returns-then-is_empty-clause-table : goal.returns-then-is_empty-clause-table
returns-then-is_empty-clause-table g c =
    let none : c.in_ok-years.years.items ≡ [] =
    none_there c.in_ok-years.years.items (grind (arith, c.if-is_empty.ensures, c.if-is_empty.true)) in
    let quarters : c.len.result ≡ length c.args.input.now.ind.items = omega arith in
    let places : c.in_ok-years.years.items ≡ places_from 0 c.args.input.now.bench.items =
    c.in_ok-years.ensures.places
    ∙ ap (λ (l : List (Option ℤ)). places_from 0 l) c.deref.ensures.value in
    let empty = leaf_table_none c.args.input.now.ind.items c.args.input.now.price.items c.args.input.now.bench.items
    c.args.reference.0 (sym places ∙ none) in
    if_ok c.missing_table.result _ _
    (λ table e. e ∙ ap (λ (n : ℕ). missing_table n c.args.reference.0) quarters ∙ sym empty) c.missing_table.ensures.table

pub returns-then-is_empty-clause-meets : goal.returns-then-is_empty-clause-meets
returns-then-is_empty-clause-meets g c =
    let worth = leaf_worth c.args.input.now.ind.items c.args.input.now.price.items c.args.input.now.bench.items
    c.args.reference.0 c.args.input.now.indicators c.args.input.now.benchmarks (omega arith) in
    if_ok c.missing_table.result _ _ (λ table e. subst (λ (t : Table). MeetsItsBenchmarks t) (sym e) worth.0)
    (returns-then-is_empty-clause-table g c)

pub returns-then-is_empty-clause-within : goal.returns-then-is_empty-clause-within
returns-then-is_empty-clause-within g c =
    let worth = leaf_worth c.args.input.now.ind.items c.args.input.now.price.items c.args.input.now.bench.items
    c.args.reference.0 c.args.input.now.indicators c.args.input.now.benchmarks (omega arith) in
    if_ok c.missing_table.result _ _ (λ table e. subst (λ (t : Table). IsWithinItsGap t) (sym e) worth.1)
    (returns-then-is_empty-clause-table g c)

pub returns-then-is_empty-clause-limit : goal.returns-then-is_empty-clause-limit
returns-then-is_empty-clause-limit g c =
    let worth = leaf_worth c.args.input.now.ind.items c.args.input.now.price.items c.args.input.now.bench.items
    c.args.reference.0 c.args.input.now.indicators c.args.input.now.benchmarks (omega arith) in
    if_ok c.missing_table.result _ _ (λ table e. subst (λ (t : Table). IsGapWithinLimit t) (sym e) worth.2)
    (returns-then-is_empty-clause-table g c)

pub benchmarked_table-requires-clause-placed : goal.benchmarked_table-requires-clause-placed
benchmarked_table-requires-clause-placed g c =
    let places : c.in_ok-years.years.items ≡ places_from 0 c.args.input.now.bench.items =
    c.in_ok-years.ensures.places
    ∙ ap (λ (l : List (Option ℤ)). places_from 0 l) c.deref.ensures.value in
    let given : c.in_ok-bench.bench.items ≡ present_benchmarks c.args.input.now.bench.items =
    c.in_ok-bench.ensures.present
    ∙ ap (λ (l : List (Option ℤ)). present_benchmarks l) c.deref-2.ensures.value in
    ap (λ (l : List ℕ). length l) places ∙ present_count 0 c.args.input.now.bench.items
    ∙ sym (ap (λ (l : List ℤ). length l) given)

-- a table made from copies of the leaf's lists is the leaf's table
same_table : (indicators copied : List ℕ) (prices given : List (Option ℕ)) (benchmarks : List (Option ℤ))
    (places : List ℕ) (present : List ℤ) (reference : ℕ) → copied ≡ indicators → given ≡ prices →
    places ≡ places_from 0 benchmarks → present ≡ present_benchmarks benchmarks →
    table_of_years copied given reference places present ≡ leaf_table indicators prices benchmarks reference
same_table indicators copied prices given benchmarks places present reference e f p h =
    ap (λ (l : List ℕ). table_of_years l given reference places present) e
    ∙ ap (λ (l : List (Option ℕ)). table_of_years indicators l reference places present) f
    ∙ leaf_table_is indicators prices benchmarks reference places present p h

pub returns-clause-table : goal.returns-clause-table
returns-clause-table g c =
    let places : c.in_ok-years.years.items ≡ places_from 0 c.args.input.now.bench.items =
    c.in_ok-years.ensures.places
    ∙ ap (λ (l : List (Option ℤ)). places_from 0 l) c.deref.ensures.value in
    let given : c.in_ok-bench.bench.items ≡ present_benchmarks c.args.input.now.bench.items =
    c.in_ok-bench.ensures.present
    ∙ ap (λ (l : List (Option ℤ)). present_benchmarks l) c.deref-2.ensures.value in
    let same = same_table c.args.input.now.ind.items c.in_ok-ind.ind.items c.args.input.now.price.items
    c.deref-4.result.now c.args.input.now.bench.items c.in_ok-years.years.items c.in_ok-bench.bench.items
    c.args.reference.0 (c.in_ok-ind.ensures.items ∙ c.deref-3.ensures.value) c.deref-4.ensures.value places given in
    if_ok c.benchmarked_table.result (λ table. table_in table ≡ table_of_years c.in_ok-ind.ind.items c.deref-4.result.now
    c.args.reference.0 c.in_ok-years.years.items c.in_ok-bench.bench.items) _ (λ table e. e ∙ same)
    c.benchmarked_table.ensures.table

pub returns-clause-meets : goal.returns-clause-meets
returns-clause-meets g c =
    let worth = leaf_worth c.args.input.now.ind.items c.args.input.now.price.items c.args.input.now.bench.items
    c.args.reference.0 c.args.input.now.indicators c.args.input.now.benchmarks (omega arith) in
    if_ok c.benchmarked_table.result _ _ (λ table e. subst (λ (t : Table). MeetsItsBenchmarks t) (sym e) worth.0)
    (returns-clause-table g c)

pub returns-clause-within : goal.returns-clause-within
returns-clause-within g c =
    let worth = leaf_worth c.args.input.now.ind.items c.args.input.now.price.items c.args.input.now.bench.items
    c.args.reference.0 c.args.input.now.indicators c.args.input.now.benchmarks (omega arith) in
    if_ok c.benchmarked_table.result _ _ (λ table e. subst (λ (t : Table). IsWithinItsGap t) (sym e) worth.1)
    (returns-clause-table g c)

pub returns-clause-limit : goal.returns-clause-limit
returns-clause-limit g c =
    let worth = leaf_worth c.args.input.now.ind.items c.args.input.now.price.items c.args.input.now.bench.items
    c.args.reference.0 c.args.input.now.indicators c.args.input.now.benchmarks (omega arith) in
    if_ok c.benchmarked_table.result _ _ (λ table e. subst (λ (t : Table). IsGapWithinLimit t) (sym e) worth.2)
    (returns-clause-table g c)

pub returns-clause-steps : goal.returns-clause-steps
returns-clause-steps g c sweeps enough =
    let places : c.in_ok-years.years.items ≡ places_from 0 c.args.input.now.bench.items =
    c.in_ok-years.ensures.places
    ∙ ap (λ (l : List (Option ℤ)). places_from 0 l) c.deref.ensures.value in
    let given : c.in_ok-bench.bench.items ≡ present_benchmarks c.args.input.now.bench.items =
    c.in_ok-bench.ensures.present
    ∙ ap (λ (l : List (Option ℤ)). present_benchmarks l) c.deref-2.ensures.value in
    leaf_steps c.args.input.now.ind.items c.in_ok-ind.ind.items c.in_ok-years.years.items c.in_ok-bench.bench.items
    c.args.input.now.bench.items c.args.steps.now c.benchmarked_table.new.steps sweeps
    (c.in_ok-ind.ensures.items ∙ c.deref-3.ensures.value) places given c.benchmarked_table.ensures.steps enough
