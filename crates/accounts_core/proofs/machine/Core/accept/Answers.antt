use Rattle.std.proofs.Common.{◌≡◌, ◌∙◌, ◌<◌, ◌≤◌, ◌+◌, ◌++◌, ◌∷◌, [], ap, sym, subst, ℕ, List, arith}
use Rattle.series_tables.specs.Fits.{FitsPlan}
use Rattle.accounts_history.specs.History.{most_ahead}
use Rattle.accounts_history.specs.declared.entry.Entry.{Entry}
use Rattle.accounts_history.specs.declared.entry.Entry.TheVariants.{Accept}
use Rattle.accounts_core.specs.State.{CoreState}
use Rattle.accounts_core.proofs.Accepting.{accept_kept, few_accepted, front_accepted}
use Rattle.accounts_core.proofs.machine.Core.accept.Goals as goal

pub overflow_add-published : goal.overflow_add-published
overflow_add-published c =
    let few = few_accepted c.self.inside.plan c.self.inside.history.items c.self.inside.accepted c.self.inside.tables c.self.inside.board c.self.inside.round c.self.invariant.0 in
    let below = front_accepted c.self.inside.plan c.self.inside.history.items c.self.inside.accepted c.self.inside.tables c.self.inside.board c.self.inside.round c.self.invariant.0 in
    omega (arith, few, below, c.front-published.ensures)

pub overflow_add-self : goal.overflow_add-self
overflow_add-self c = let few = few_accepted c.self.inside.plan c.self.inside.history.items c.self.inside.accepted c.self.inside.tables c.self.inside.board c.self.inside.round c.self.invariant.0 in omega (arith, few)

pub invariant_of-self-2 : goal.invariant_of-self-2
invariant_of-self-2 c =
    let pushed : c.push_reserved.new.self.items ≡ c.self.inside.history.items ++ Accept c.args.party c.args.input ∷ [] =
    c.push_reserved.ensures.items ∙ ap (λ (es : List Entry). es ++ Accept c.args.party c.args.input ∷ []) c.in_ok-reserve.ensures.items in
    let fits : FitsPlan c.self.inside.plan c.args.input = subst (λ (s : CoreState). FitsPlan s.plan c.args.input) (sym c.self.view_is) c.requires in (
      accept_kept c.self.inside.plan c.self.inside.history.items c.push_reserved.new.self.items c.self.inside.accepted c.self.inside.tables c.set.new.self c.self.inside.board c.self.inside.round
          c.args.party c.args.input c.self.invariant.0 fits c.if-self-eq-MOST_INPUTS.false
          (λ same. c.if-self-published.false (same ∙ ap (λ (n : ℕ). n + most_ahead) (sym c.front-published.ensures))) pushed c.set.ensures.items c.set.ensures.cells,
      λ r is. omega (arith, c.push_reserved.ensures.len, c.push_reserved.ensures.capacity, c.in_ok-reserve.ensures.ok, c.in_ok-reserve.ensures.len),
    )
