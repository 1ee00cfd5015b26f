use Rattle.std.proofs.Common.{◌≡◌, ◌∙◌, sym, refl, not, Bool, false, true}
use Rattle.round_works.proofs.Beginnings.{first_leaf}
use Rattle.round_works.proofs.opening.work_of.Goals as goal

pub returns-in_ok-leaf_input : goal.returns-in_ok-leaf_input
returns-in_ok-leaf_input c = λ inputs begins.
    first_leaf c.args.plan.now inputs c.args.tables.now c.args.item c.in_ok-leaf_input.field-0.ind.items c.in_ok-leaf_input.field-0.price.items c.in_ok-leaf_input.field-0.bench.items
    (sym c.is_leaf.ensures.leaf ∙ c.if-is_leaf.true) begins.values c.in_ok-leaf_input.ensures

pub returns-in_ok-sum_of_others : goal.returns-in_ok-sum_of_others
returns-in_ok-sum_of_others c = λ inputs begins.
    ((sym c.is_leaf.ensures.leaf ∙ c.if-is_leaf.false, some_child _ (sym c.is_leaf.ensures.behind ∙ c.if-is_leaf.false)), c.in_ok-sum_of_others.ensures inputs begins.shows)
  where
    some_child : (b : Bool) → not b ≡ false → b ≡ true
    some_child true e = refl
    some_child false e = absurd (let never : true ≡ false = e in cc)
