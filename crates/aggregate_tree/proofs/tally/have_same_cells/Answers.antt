use Rattle.std.proofs.Common.{◌≡◌, ◌∙◌, ap, sym, refl, map, get_or, true, arith}
use Rattle.aggregate_tree.specs.Tallies.{no_tally, cell_of, cells_of}
use Rattle.aggregate_tree.proofs.Places.{same_cells, same_cell}
use Rattle.aggregate_tree.proofs.tally.have_same_cells.Goals as goal

pub returns : goal.returns
returns c =
    let same : map cell_of c.reached-one.result.now ≡ map cell_of c.reached-other.result.now =
    same_cells c.reached-one.result.now c.reached-other.result.now (omega arith) (λ k below. c.loop-quarter.invariant k (omega arith)) in
    let cells : cells_of c.args.one.now ≡ cells_of c.args.other.now = ap (map cell_of) (sym c.reached-one.ensures.reached) ∙ same ∙ ap (map cell_of) c.reached-other.ensures.reached in
    record { same = (λ yes. cells, λ equal. refl) }

pub returns-then-not-is_same_cell : goal.returns-then-not-is_same_cell
returns-then-not-is_same_cell c = record {
  same = (
    λ no. absurd (cc),
    λ equal.
        let maps : map cell_of c.reached-one.result.now ≡ map cell_of c.reached-other.result.now = ap (map cell_of) c.reached-one.ensures.reached ∙ equal ∙ ap (map cell_of) (sym c.reached-other.ensures.reached) in
        let here : cell_of (get_or c.reached-one.result.now c.loop-quarter.quarter no_tally) ≡ cell_of (get_or c.reached-other.result.now c.loop-quarter.quarter no_tally) =
        same_cell c.reached-one.result.now c.reached-other.result.now c.loop-quarter.quarter (omega arith) (omega arith) maps in
        let yes : c.is_same_cell.result ≡ true = c.is_same_cell.ensures.same.1 (c.cell.ensures.cell ∙ here ∙ sym c.cell-in-loop-quarter.ensures.cell) in
        cc,
  );
}
