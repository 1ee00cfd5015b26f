use Rattle.std.proofs.Common.{◌≡◌, ◌∙◌, ap, sym, subst, ◌<◌, ◌≤◌, ◌++◌, ◌∷◌, List, length, take, drop, arith}
use Rattle.aggregate_tree.specs.declared.tally.Tally.{Tally}
use Rattle.aggregate_tree.specs.Tallies.{IsSumOf, with_cells, AreValueSums, AreVolumeSums}
use Rattle.aggregate_tree.specs.Sum.{Sum}
use Rattle.aggregate_tree.proofs.Places.{length-with_cells, value_sums_fit, volume_sums_fit, written_back, sum_more}
use Rattle.aggregate_tree.proofs.Kept.{kept_more}
use Rattle.aggregate_tree.proofs.sum.FlowSum.add.Goals as goal

pub add_cells-requires-clause-sums : goal.add_cells-requires-clause-sums
add_cells-requires-clause-sums c =
    rw (c.as_slice.ensures.cells, c.deref_mut.ensures.value)
    (value_sums_fit c.args.child.now.value c.self.inside.value.items (subst (λ (s : Sum). AreValueSums (with_cells c.args.child.now.value s.value)) (sym c.self.view_is) c.requires.value_sums))

pub add_cells-requires-2-clause-sums : goal.add_cells-requires-2-clause-sums
add_cells-requires-2-clause-sums c =
    rw (c.as_slice-2.ensures.cells, c.deref_mut-2.ensures.value)
    (volume_sums_fit c.args.child.now.prev c.self.inside.prev.items (subst (λ (s : Sum). AreVolumeSums (with_cells c.args.child.now.prev s.prev)) (sym c.self.view_is) c.requires.prev_sums))

pub invariant_of-self : goal.invariant_of-self
invariant_of-self c =
    let value : take c.self.inside.value.len (c.add_cells.new.tallies ++ drop (length c.add_cells.new.tallies) c.self.inside.value.items) ≡ with_cells c.args.child.now.value c.self.inside.value.items =
    written_back c.self.inside.value.len c.self.inside.value.items c.add_cells.new.tallies _ (sym c.deref_mut.ensures.len ∙ ap length c.deref_mut.ensures.value)
    (c.add_cells.ensures.with ∙ ap (λ cells. with_cells cells c.deref_mut.result.now) c.as_slice.ensures.cells ∙ ap (λ tallies. with_cells c.args.child.now.value tallies) c.deref_mut.ensures.value)
    (length-with_cells c.args.child.now.value c.self.inside.value.items) in
    let prev : take c.self.inside.prev.len (c.add_cells-2.new.tallies ++ drop (length c.add_cells-2.new.tallies) c.self.inside.prev.items) ≡ with_cells c.args.child.now.prev c.self.inside.prev.items =
    written_back c.self.inside.prev.len c.self.inside.prev.items c.add_cells-2.new.tallies _ (sym c.deref_mut-2.ensures.len ∙ ap length c.deref_mut-2.ensures.value)
    (c.add_cells-2.ensures.with ∙ ap (λ cells. with_cells cells c.deref_mut-2.result.now) c.as_slice-2.ensures.cells ∙ ap (λ tallies. with_cells c.args.child.now.prev tallies) c.deref_mut-2.ensures.value)
    (length-with_cells c.args.child.now.prev c.self.inside.prev.items) in
    rw (value, prev)
    (kept_more c.self.inside.children c.self.inside.value.items c.self.inside.prev.items c.args.child.now.value c.args.child.now.prev c.self.invariant
    (subst (λ (s : Sum). s.children < 512) (sym c.self.view_is) c.requires.children) c.args.child.now.same_length
    (subst (λ (s : Sum). AreValueSums (with_cells c.args.child.now.value s.value)) (sym c.self.view_is) c.requires.value_sums)
    (subst (λ (s : Sum). AreVolumeSums (with_cells c.args.child.now.prev s.prev)) (sym c.self.view_is) c.requires.prev_sums))

pub returns-clause-value : goal.returns-clause-value
returns-clause-value c = λ lists sum.
    let value : take c.self.inside.value.len (c.add_cells.new.tallies ++ drop (length c.add_cells.new.tallies) c.self.inside.value.items) ≡ with_cells c.args.child.now.value c.self.inside.value.items =
    written_back c.self.inside.value.len c.self.inside.value.items c.add_cells.new.tallies _ (sym c.deref_mut.ensures.len ∙ ap length c.deref_mut.ensures.value)
    (c.add_cells.ensures.with ∙ ap (λ cells. with_cells cells c.deref_mut.result.now) c.as_slice.ensures.cells ∙ ap (λ tallies. with_cells c.args.child.now.value tallies) c.deref_mut.ensures.value)
    (length-with_cells c.args.child.now.value c.self.inside.value.items) in
    subst (λ (tallies : List Tally). IsSumOf (c.args.child.now.value ∷ lists) tallies) (sym value)
    (sum_more c.args.child.now.value lists c.self.inside.value.items (subst (λ (s : Sum). length c.args.child.now.value ≤ length s.value) (sym c.self.view_is) c.requires.quarters)
    (subst (λ (s : Sum). IsSumOf lists s.value) (sym c.self.view_is) sum))

pub returns-clause-prev : goal.returns-clause-prev
returns-clause-prev c = λ lists sum.
    let prev : take c.self.inside.prev.len (c.add_cells-2.new.tallies ++ drop (length c.add_cells-2.new.tallies) c.self.inside.prev.items) ≡ with_cells c.args.child.now.prev c.self.inside.prev.items =
    written_back c.self.inside.prev.len c.self.inside.prev.items c.add_cells-2.new.tallies _ (sym c.deref_mut-2.ensures.len ∙ ap length c.deref_mut-2.ensures.value)
    (c.add_cells-2.ensures.with ∙ ap (λ cells. with_cells cells c.deref_mut-2.result.now) c.as_slice-2.ensures.cells ∙ ap (λ tallies. with_cells c.args.child.now.prev tallies) c.deref_mut-2.ensures.value)
    (length-with_cells c.args.child.now.prev c.self.inside.prev.items) in
    let short : length c.args.child.now.value ≤ length c.self.inside.value.items = subst (λ (s : Sum). length c.args.child.now.value ≤ length s.value) (sym c.self.view_is) c.requires.quarters in
    let same : length c.args.child.now.value ≡ length c.args.child.now.prev = c.args.child.now.same_length in
    let as_long : length c.self.inside.prev.items ≡ length c.self.inside.value.items = c.self.invariant.as_long in
    subst (λ (tallies : List Tally). IsSumOf (c.args.child.now.prev ∷ lists) tallies) (sym prev)
    (sum_more c.args.child.now.prev lists c.self.inside.prev.items (omega arith) (subst (λ (s : Sum). IsSumOf lists s.prev) (sym c.self.view_is) sum))
