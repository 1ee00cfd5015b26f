use Rattle.std.proofs.Common.{◌≡◌, ◌<◌, ◌∙◌, suc, not, length, drop, ap, arith}
use Rattle.std.specs.List.{list_any}
use Rattle.series_tables.specs.Plan.{PlanShape, is_parent}
use Rattle.series_tables.proofs.Parents.{leaf_from_flag, behind_from_flag}
use Rattle.series_tables.proofs.plan.Plan.is_leaf.Goals as goal

pub returns-clause-leaf : goal.returns-clause-leaf
returns-clause-leaf c =
    let names : length c.self.inside.items.names ≡ length c.args.self.now.names = ap (λ (p : PlanShape). length p.names) c.self.view_is in
    let kept = c.self.invariant.1 in
    let within : c.args.node < length c.self.inside.leaves.items = omega (arith, kept.0, names, c.requires) in
    leaf_from_flag c.self.inside.items.parents c.self.inside.leaves.items c.args.node c.index.result.now kept.1 within c.index.ensures
    ∙ ap (λ (p : PlanShape). not (list_any (is_parent c.args.node) p.parents)) c.self.view_is

pub returns-clause-behind : goal.returns-clause-behind
returns-clause-behind c =
    let names : length c.self.inside.items.names ≡ length c.args.self.now.names = ap (λ (p : PlanShape). length p.names) c.self.view_is in
    let kept = c.self.invariant.1 in
    let within : c.args.node < length c.self.inside.leaves.items = omega (arith, kept.0, names, c.requires) in
    behind_from_flag c.self.inside.items.parents c.self.inside.leaves.items c.args.node c.index.result.now kept.1 kept.2 within c.index.ensures
    ∙ ap (λ (p : PlanShape). not (list_any (is_parent c.args.node) (drop (suc c.args.node) p.parents))) c.self.view_is
