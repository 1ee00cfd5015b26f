use Rattle.std.proofs.Common.{◌≡◌, ◌++◌, Some, refl}
use Rattle.node_compile.specs.Table.{certificate_in, table_in}
use Rattle.release_print.specs.Release.{quarter_lines, year_lines, gap_line, item_lines}
use Rattle.release_print.proofs.Parts.{first_part, later_part, appends_behind, appends_part}
use Rattle.release_print.proofs.release.push_item.Goals as goal

pub returns-in_err-push_years : goal.returns-in_err-push_years
returns-in_err-push_years c =
    let quarters = rw (c.as_slice.ensures.cells, c.as_slice-2.ensures.cells, c.as_slice-3.ensures.cells) at c.in_ok-push_quarters.ensures in
    let years = rw (c.as_slice-4.ensures.cells, c.as_slice-5.ensures.cells, c.as_slice-6.ensures.cells, c.as_slice-7.ensures.cells) at c.in_err-push_years.ensures in
    appends_part c.from_residual-in_err-push_years.result _ _ _ c.from_residual-in_err-push_years.ensures.0 (later_part _ _ _ _ _ _ quarters (first_part _ _ _ _ _ years refl) refl)

pub returns-in-Some : goal.returns-in-Some
returns-in-Some c =
    let quarters = rw (c.as_slice.ensures.cells, c.as_slice-2.ensures.cells, c.as_slice-3.ensures.cells) at c.in_ok-push_quarters.ensures in
    let years = rw (c.as_slice-4.ensures.cells, c.as_slice-5.ensures.cells, c.as_slice-6.ensures.cells, c.as_slice-7.ensures.cells) at c.in_ok-push_years.ensures in
    let table = table_in c.args.table.now in
    let whole : item_lines c.args.start c.args.name.now table ≡ quarter_lines c.args.start c.args.name.now table.value table.prev table.chain.quarter ++ (year_lines c.args.start c.args.name.now table.chain.value table.chain.prev table.chain.level table.chain.drift ++ gap_line c.args.name.now (Some (certificate_in c.in-Some.part))) = rw c.in-Some.is refl in
    appends_behind c.push_gap.result _ _ _ _ _ _ quarters whole (appends_behind c.push_gap.result _ _ _ _ _ _ years refl c.push_gap.ensures)
