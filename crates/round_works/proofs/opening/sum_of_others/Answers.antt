use Rattle.std.proofs.Common.{◌≡◌, ◌∙◌, ◌-◌, suc, ℕ, sym, subst, arith}
use Rattle.round_works.specs.Making.{IsSumFrom}
use Rattle.round_works.proofs.Bounds.{CanTake}
use Rattle.round_works.proofs.Others.{IsTurn, sum_past, turn_sums, turn_takes}
use Rattle.round_works.proofs.opening.sum_of_others.Goals as goal

turn_at : (c : goal.After-deref) → IsTurn c.args.plan.now c.args.jobs.now.jobs c.args.board.now.shown c.args.item (c.loop-child.child - 1) c.loop-child.child c.deref.result.now
turn_at c = record {
  node = c.show.result.now;
  behind = omega arith;
  inside = omega arith;
  named = omega arith;
  follows = omega (arith, c.loop-child-test.true);
  other = sym c.is_other_child.ensures ∙ c.if-is_other_child.true;
  there = c.show.ensures;
  lends = c.deref.ensures;
}

takes : (c : goal.After-deref) → CanTake c.deref.result.now.flows.value c.deref.result.now.flows.prev c.loop-child.sum
takes c =
    let shows = c.requires.inputs.1 in
    turn_takes c.args.plan.now c.requires.inputs.0 c.args.jobs.now.jobs c.args.board.now.shown c.args.item (c.loop-child.child - 1) c.loop-child.child c.deref.result.now c.loop-child.sum
    (omega arith) shows (turn_at c) (c.loop-child.invariant.sum c.requires.inputs.0 shows)

pub add-requires-clause-children : goal.add-requires-clause-children
add-requires-clause-children c = (takes c).children

pub add-requires-clause-quarters : goal.add-requires-clause-quarters
add-requires-clause-quarters c = (takes c).quarters

pub add-requires-clause-value_sums : goal.add-requires-clause-value_sums
add-requires-clause-value_sums c = (takes c).values

pub add-requires-clause-prev_sums : goal.add-requires-clause-prev_sums
add-requires-clause-prev_sums c = (takes c).volumes

pub loop-child-preserved-then-is_other_child : goal.loop-child-preserved-then-is_other_child
loop-child-preserved-then-is_other_child c = record {
  behind = omega arith;
  sum = λ inputs shows.
      turn_sums c.args.plan.now inputs c.args.jobs.now.jobs c.args.board.now.shown c.args.item (c.loop-child.child - 1) c.loop-child.child c.deref.result.now c.loop-child.sum c.add.new.self shows
      (record {
        node = c.show.result.now;
        behind = omega arith;
        inside = omega arith;
        named = omega arith;
        follows = omega (arith, c.loop-child-test.true);
        other = sym c.is_other_child.ensures ∙ c.if-is_other_child.true;
        there = c.show.ensures;
        lends = c.deref.ensures;
      })
      (c.loop-child.invariant.sum inputs shows) c.add.ensures.added;
}

pub loop-child-preserved : goal.loop-child-preserved
loop-child-preserved c = record {
  behind = omega arith;
  sum = λ inputs shows.
      let next : suc (c.loop-child.child - 1) ≡ c.loop-child.child = omega (arith, c.loop-child-test.true) in
      sum_past c.args.plan.now inputs c.args.jobs.now.jobs c.args.board.now.shown c.args.item (c.loop-child.child - 1) c.loop-child.sum shows (omega arith)
      (sym c.is_other_child.ensures ∙ c.if-is_other_child.false)
      (subst (λ (n : ℕ). IsSumFrom c.args.plan.now inputs c.args.jobs.now.jobs c.args.item n c.loop-child.sum) (sym next) (c.loop-child.invariant.sum inputs shows));
}

pub returns : goal.returns
returns c = λ inputs shows.
    let first : c.loop-child.child ≡ suc c.args.item = omega (arith, c.loop-child-test.false, c.loop-child.invariant.behind) in
    subst (λ (n : ℕ). IsSumFrom c.args.plan.now inputs c.args.jobs.now.jobs c.args.item n c.loop-child.sum) first (c.loop-child.invariant.sum inputs shows)
