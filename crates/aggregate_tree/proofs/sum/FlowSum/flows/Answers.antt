use Rattle.std.proofs.Common.{◌≡◌, ◌∙◌, ap, sym, subst, List, map, length}
use Rattle.std.specs.List.{All}
use Rattle.price_base.specs.declared.Cell.{Cell}
use Rattle.price_base.specs.Cells.{IsFlow}
use Rattle.aggregate_tree.specs.Leaves.{added}
use Rattle.aggregate_tree.specs.Tallies.{IsSumOf, cells_of, IsValueInRange, IsVolumeInRange}
use Rattle.aggregate_tree.specs.Sum.{Sum}
use Rattle.aggregate_tree.proofs.Adding.{sum_over_leaves}
use Rattle.aggregate_tree.proofs.Counts.{cells_of_sum}
use Rattle.aggregate_tree.proofs.Kept.{same_cells_length, flows_of_sum, values_in_range, volumes_in_range}
use Rattle.aggregate_tree.proofs.sum.FlowSum.flows.Goals as goal

pub new-requires-clause-same_length : goal.new-requires-clause-same_length
new-requires-clause-same_length c =
    let value : c.from.result ≡ cells_of c.self.inside.value.items = c.from.ensures ∙ c.in_ok-value.ensures.cells ∙ ap cells_of c.deref.ensures.value in
    let prev : c.from-2.result ≡ cells_of c.self.inside.prev.items = c.from-2.ensures ∙ c.in_ok-prev.ensures.cells ∙ ap cells_of c.deref-2.ensures.value in
    ap length value ∙ same_cells_length c.self.inside.value.items c.self.inside.prev.items c.self.invariant.as_long c.self.invariant.same_present ∙ sym (ap length prev)

pub new-requires-clause-value_flows : goal.new-requires-clause-value_flows
new-requires-clause-value_flows c =
    let value : c.from.result ≡ cells_of c.self.inside.value.items = c.from.ensures ∙ c.in_ok-value.ensures.cells ∙ ap cells_of c.deref.ensures.value in
    subst (λ (cells : List Cell). All IsFlow cells) (sym value) (flows_of_sum c.self.inside.value.items)

pub new-requires-clause-prev_flows : goal.new-requires-clause-prev_flows
new-requires-clause-prev_flows c =
    let prev : c.from-2.result ≡ cells_of c.self.inside.prev.items = c.from-2.ensures ∙ c.in_ok-prev.ensures.cells ∙ ap cells_of c.deref-2.ensures.value in
    subst (λ (cells : List Cell). All IsFlow cells) (sym prev) (flows_of_sum c.self.inside.prev.items)

pub returns-clause-value_of_children : goal.returns-clause-value_of_children
returns-clause-value_of_children c = λ lists sum.
    c.new.ensures.value ∙ c.from.ensures ∙ c.in_ok-value.ensures.cells ∙ ap cells_of c.deref.ensures.value
    ∙ cells_of_sum lists c.self.inside.value.items (subst (λ (s : Sum). IsSumOf lists s.value) (sym c.self.view_is) sum)

pub returns-clause-prev_of_children : goal.returns-clause-prev_of_children
returns-clause-prev_of_children c = λ lists sum.
    c.new.ensures.prev ∙ c.from-2.ensures ∙ c.in_ok-prev.ensures.cells ∙ ap cells_of c.deref-2.ensures.value
    ∙ cells_of_sum lists c.self.inside.prev.items (subst (λ (s : Sum). IsSumOf lists s.prev) (sym c.self.view_is) sum)

pub returns-clause-value_over_leaves : goal.returns-clause-value_over_leaves
returns-clause-value_over_leaves c = λ children all sum.
    c.new.ensures.value ∙ c.from.ensures ∙ c.in_ok-value.ensures.cells ∙ ap cells_of c.deref.ensures.value
    ∙ cells_of_sum (map added children) c.self.inside.value.items (subst (λ (s : Sum). IsSumOf (map added children) s.value) (sym c.self.view_is) sum) ∙ sum_over_leaves children all

pub returns-clause-prev_over_leaves : goal.returns-clause-prev_over_leaves
returns-clause-prev_over_leaves c = λ children all sum.
    c.new.ensures.prev ∙ c.from-2.ensures ∙ c.in_ok-prev.ensures.cells ∙ ap cells_of c.deref-2.ensures.value
    ∙ cells_of_sum (map added children) c.self.inside.prev.items (subst (λ (s : Sum). IsSumOf (map added children) s.prev) (sym c.self.view_is) sum) ∙ sum_over_leaves children all

pub returns-clause-value_range : goal.returns-clause-value_range
returns-clause-value_range c =
    let value : c.new.result.value ≡ cells_of c.self.inside.value.items = c.new.ensures.value ∙ c.from.ensures ∙ c.in_ok-value.ensures.cells ∙ ap cells_of c.deref.ensures.value in
    subst (λ (cells : List Cell). All IsValueInRange cells) (sym value) (values_in_range c.self.inside.value.items c.self.invariant.value_sums)

pub returns-clause-prev_range : goal.returns-clause-prev_range
returns-clause-prev_range c =
    let prev : c.new.result.prev ≡ cells_of c.self.inside.prev.items = c.new.ensures.prev ∙ c.from-2.ensures ∙ c.in_ok-prev.ensures.cells ∙ ap cells_of c.deref-2.ensures.value in
    subst (λ (cells : List Cell). All IsVolumeInRange cells) (sym prev) (volumes_in_range c.self.inside.prev.items c.self.invariant.prev_sums)
