use Rattle.std.proofs.Common.{◌≡◌, ◌∙◌, ap, ℕ, suc, drop, arith}
use Rattle.std.specs.List.{list_any}
use Rattle.series_tables.specs.Tree.{of_children}
use Rattle.dirty_plan.specs.Round.{is_unfinished as is_unfinished_of}
use Rattle.dirty_plan.proofs.readiness.has_unfinished_child.Goals as goal

pub returns : goal.returns
returns c =
    let first : c.loop-child.child ≡ suc c.args.item = omega (arith, c.loop-child-test.false, c.loop-child.invariant.0) in
    c.loop-child.invariant.1
    ∙ ap (λ (n : ℕ). list_any is_unfinished_of (of_children c.args.item (drop n c.args.parents.now) (drop n c.args.jobs.now))) first
