use Rattle.std.proofs.Common.{◌≡◌, ◌+◌, ◌∙◌, ℕ, suc, not, false, List, Bool, Option, None, length, take, get_or, ap, arith}
use Rattle.std.proofs.lemmas.List.{take_all}
use Rattle.std.specs.List.{list_any}
use Rattle.series_tables.specs.Plan.{is_parent}
use Rattle.series_tables.proofs.Parents.{flag_more, flags_all, length-marked}
use Rattle.series_tables.proofs.items.mark_parents.Goals as goal

pub loop-node-preserved : goal.loop-node-preserved
loop-node-preserved c =
    let next : suc c.loop-node.node ≡ c.loop-node.node + 1 = omega arith in
    let parent : Option ℕ = get_or c.args.parents.now c.loop-node.node None in (
      ap (λ (l : List Bool). length l) c.mark.ensures ∙ length-marked parent c.loop-node.flags ∙ c.loop-node.invariant.0,
      λ k inside. ap (λ (l : List Bool). get_or l k false) c.mark.ensures
          ∙ flag_more c.args.parents.now c.loop-node.node k c.loop-node.flags c.loop-node-test.true (omega (arith, c.loop-node.invariant.0, inside)) (c.loop-node.invariant.1 k inside)
          ∙ ap (λ (n : ℕ). not (list_any (is_parent k) (take n c.args.parents.now))) next,
    )

pub returns : goal.returns
returns c =
    let whole : take c.loop-node.node c.args.parents.now ≡ c.args.parents.now = take_all c.loop-node.node c.args.parents.now c.loop-node-test.false in
    flags_all c.args.parents.now c.loop-node.flags c.loop-node.invariant.0
    (λ k inside. c.loop-node.invariant.1 k inside ∙ ap (λ (l : List (Option ℕ)). not (list_any (is_parent k) l)) whole)
