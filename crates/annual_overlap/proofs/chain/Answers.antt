use Rattle.std.proofs.Common.{◌≡◌, List, map, ap, ◌∙◌}
use Rattle.price_base.specs.declared.Cell.{Cell}
use Rattle.annual_overlap.specs.declared.Point.{Point}
use Rattle.annual_overlap.specs.Years.{years_of}
use Rattle.annual_overlap.specs.Chain.{points_of, level_cell, drift_cell}
use Rattle.annual_overlap.specs.Quarters.{chained_of}
use Rattle.annual_overlap.proofs.Laws.{chain_from, chain_within_drift, chain_adds_up, chain_years, chain_quarters, volumes_small, years_few, volumes_total, levels_sized}
use Rattle.annual_overlap.proofs.chain.Goals as goal

pub points-requires-clause-volumes : goal.points-requires-clause-volumes
points-requires-clause-volumes c =
    let prev : c.deref-2.result.now ≡ years_of c.args.flows.now.prev = c.deref-2.ensures.value ∙ c.in_ok-prev.ensures.years ∙ ap years_of c.as_slice-2.ensures.cells in
    volumes_small c.args.flows.now.prev c.deref-2.result.now prev c.requires.volumes

pub points-requires-clause-years : goal.points-requires-clause-years
points-requires-clause-years c =
    let value : c.deref.result.now ≡ years_of c.args.flows.now.value = c.deref.ensures.value ∙ c.in_ok-value.ensures.years ∙ ap years_of c.as_slice.ensures.cells in
    years_few c.args.flows.now.value c.deref.result.now value c.requires.quarters

pub chained_cells-requires-clause-volumes : goal.chained_cells-requires-clause-volumes
chained_cells-requires-clause-volumes c =
    let prev : c.deref-6.result.now ≡ years_of c.args.flows.now.prev = c.deref-6.ensures.value ∙ c.in_ok-prev.ensures.years ∙ ap years_of c.as_slice-2.ensures.cells in
    volumes_small c.args.flows.now.prev c.deref-6.result.now prev c.requires.volumes

pub chained_cells-requires-clause-levels : goal.chained_cells-requires-clause-levels
chained_cells-requires-clause-levels c =
    let levels : c.deref-7.result.now ≡ map level_cell c.in_ok-points.points.items = c.deref-7.ensures.value ∙ c.in_ok-level.ensures.cells ∙ ap (map level_cell) c.deref-3.ensures.value in
    levels_sized c.deref.result.now c.deref-2.result.now c.deref-7.result.now c.in_ok-points.points.items c.from.result c.in_ok-points.ensures.points levels c.in_ok-points.ensures.small

pub chained_cells-requires-clause-totals : goal.chained_cells-requires-clause-totals
chained_cells-requires-clause-totals c =
    let prev : c.deref-6.result.now ≡ years_of c.args.flows.now.prev = c.deref-6.ensures.value ∙ c.in_ok-prev.ensures.years ∙ ap years_of c.as_slice-2.ensures.cells in
    volumes_total c.args.flows.now.prev c.deref-6.result.now c.as_slice-3.result.now prev c.as_slice-3.ensures.cells

pub returns-clause-table : goal.returns-clause-table
returns-clause-table c =
    let values : List Cell = c.in_ok-value.value.items in
    let volumes : List Cell = c.in_ok-prev.prev.items in
    let points : List Point = c.in_ok-points.points.items in
    let levels : List Cell = c.in_ok-level.level.items in
    let e0 : values ≡ years_of c.args.flows.now.value = c.in_ok-value.ensures.years ∙ ap years_of c.as_slice.ensures.cells in
    let e1 : volumes ≡ years_of c.args.flows.now.prev = c.in_ok-prev.ensures.years ∙ ap years_of c.as_slice-2.ensures.cells in
    let v : c.deref.result.now ≡ values = c.deref.ensures.value in
    let w : c.deref-2.result.now ≡ volumes = c.deref-2.ensures.value in
    let r : c.from.result ≡ c.args.reference.0 = c.from.ensures in
    let e2 : points ≡ points_of values volumes c.args.reference.0 =
    c.in_ok-points.ensures.points ∙ ap (λ l. points_of l c.deref-2.result.now c.from.result) v ∙ ap (λ l. points_of values l c.from.result) w ∙ ap (points_of values volumes) r in
    let e3 : levels ≡ map level_cell points = c.in_ok-level.ensures.cells ∙ ap (map level_cell) c.deref-3.ensures.value in
    let e4 : c.in_ok-drift.drift.items ≡ map drift_cell points = c.in_ok-drift.ensures.cells ∙ ap (map drift_cell) c.deref-4.ensures.value in
    let v2 : c.deref-5.result.now ≡ values = c.deref-5.ensures.value in
    let w2 : c.deref-6.result.now ≡ volumes = c.deref-6.ensures.value in
    let l2 : c.deref-7.result.now ≡ levels = c.deref-7.ensures.value in
    let q2 : c.as_slice-3.result.now ≡ c.args.flows.now.prev = c.as_slice-3.ensures.cells in
    let e5 : c.in_ok-quarter.quarter.items ≡ chained_of values volumes levels c.args.flows.now.prev =
    c.in_ok-quarter.ensures.quarters ∙ ap (λ l. chained_of l c.deref-6.result.now c.deref-7.result.now c.as_slice-3.result.now) v2 ∙ ap (λ l. chained_of values l c.deref-7.result.now c.as_slice-3.result.now) w2 ∙
    ap (λ l. chained_of values volumes l c.as_slice-3.result.now) l2 ∙ ap (chained_of values volumes levels) q2 in
    let fv : c.from-2.result ≡ values = c.from-2.ensures in
    let fp : c.from-3.result ≡ volumes = c.from-3.ensures in
    let fl : c.from-4.result ≡ levels = c.from-4.ensures in
    let fd : c.from-5.result ≡ c.in_ok-drift.drift.items = c.from-5.ensures in
    let fq : c.from-6.result ≡ c.in_ok-quarter.quarter.items = c.from-6.ensures in
    chain_from c.args.flows.now.value c.args.flows.now.prev values volumes levels c.in_ok-drift.drift.items c.in_ok-quarter.quarter.items _ _ _ _ _ points c.args.reference.0 e0 e1 e2 e3 e4 e5 fv fp fl fd fq

pub returns-clause-drift : goal.returns-clause-drift
returns-clause-drift c = chain_within_drift (record { value = c.from-2.result; prev = c.from-3.result; level = c.from-4.result; drift = c.from-5.result; quarter = c.from-6.result }) c.args.flows.now.value c.args.flows.now.prev c.args.reference.0 (returns-clause-table c)

pub returns-clause-adds_up : goal.returns-clause-adds_up
returns-clause-adds_up c = chain_adds_up (record { value = c.from-2.result; prev = c.from-3.result; level = c.from-4.result; drift = c.from-5.result; quarter = c.from-6.result }) c.args.flows.now.value c.args.flows.now.prev c.args.reference.0 (returns-clause-table c)

pub returns-clause-years : goal.returns-clause-years
returns-clause-years c = chain_years (record { value = c.from-2.result; prev = c.from-3.result; level = c.from-4.result; drift = c.from-5.result; quarter = c.from-6.result }) c.args.flows.now.value c.args.flows.now.prev c.args.reference.0 (returns-clause-table c) c.args.flows.now.same_length

pub returns-clause-quarters : goal.returns-clause-quarters
returns-clause-quarters c = chain_quarters (record { value = c.from-2.result; prev = c.from-3.result; level = c.from-4.result; drift = c.from-5.result; quarter = c.from-6.result }) c.args.flows.now.value c.args.flows.now.prev c.args.reference.0 (returns-clause-table c) c.args.flows.now.same_length
