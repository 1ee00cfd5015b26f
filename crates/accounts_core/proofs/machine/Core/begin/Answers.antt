use Rattle.std.proofs.Common.{◌≡◌, ◌∙◌, ◌≤◌, ◌<◌, ap, sym, subst, ℕ, List, Bool, arith, None, Some}
use Rattle.std.specs.Prelude.{◌≢◌, vec_len, vec_capacity}
use Rattle.dirty_plan.specs.Round.{has_flag}
use Rattle.dirty_plan.specs.Touched.{inputs_between}
use Rattle.accounts_history.specs.History.{inputs_of}
use Rattle.accounts_history.specs.Naming.{AreNamed}
use Rattle.accounts_history.specs.declared.entry.Entry.{Entry}
use Rattle.accounts_core.specs.Kept.{IsKept}
use Rattle.accounts_core.specs.State.{CoreState}
use Rattle.accounts_core.specs.Step.{Begins}
use Rattle.accounts_core.specs.declared.replies.Begin.TheVariants.{Opened}
use Rattle.accounts_core.proofs.Accepting.{front_accepted}
use Rattle.accounts_core.proofs.Beginning.{begin_kept, begin_step, can_open, flags_name_leaves, named_from, opening}
use Rattle.accounts_core.proofs.Handling.{state_of_parts}
use Rattle.accounts_core.proofs.machine.Core.begin.Goals as goal

pub named_since-requires-clause-front : goal.named_since-requires-clause-front
named_since-requires-clause-front c =
    let below = front_accepted c.self.inside.plan c.self.inside.history.items c.self.inside.accepted c.self.inside.tables c.self.inside.board c.self.inside.round c.self.invariant.0 in
    omega (arith, below, c.front-front.ensures)

pub open-requires-clause-leaves : goal.open-requires-clause-leaves
open-requires-clause-leaves c =
    let named : AreNamed c.deref-2.result.now (inputs_between (inputs_of c.self.inside.history.items) c.self.inside.board.front c.self.inside.accepted) =
    named_from c.in_ok-touched.touched.items c.deref-2.result.now c.deref.result.now c.self.inside.history.items c.front-front.result c.self.inside.board.front c.self.inside.accepted
    c.in_ok-touched.ensures.named c.deref-2.ensures.value c.deref.ensures.value c.front-front.ensures in
    flags_name_leaves c.self.inside.plan c.self.inside.history.items c.self.inside.accepted c.self.inside.tables c.self.inside.board c.self.inside.round c.deref-2.result.now c.self.invariant.0 named

pub open-requires-clause-inputs : goal.open-requires-clause-inputs
open-requires-clause-inputs c =
    let named : AreNamed c.deref-2.result.now (inputs_between (inputs_of c.self.inside.history.items) c.self.inside.board.front c.self.inside.accepted) =
    named_from c.in_ok-touched.touched.items c.deref-2.result.now c.deref.result.now c.self.inside.history.items c.front-front.result c.self.inside.board.front c.self.inside.accepted
    c.in_ok-touched.ensures.named c.deref-2.ensures.value c.deref.ensures.value c.front-front.ensures in
    can_open c.self.inside.plan c.self.inside.history.items c.self.inside.accepted c.self.inside.tables c.self.inside.board c.self.inside.round c.deref-2.result.now c.self.invariant.0 named

pub invariant_of-self-2 : goal.invariant_of-self-2
invariant_of-self-2 c =
    let named : AreNamed c.deref-2.result.now (inputs_between (inputs_of c.self.inside.history.items) c.self.inside.board.front c.self.inside.accepted) =
    named_from c.in_ok-touched.touched.items c.deref-2.result.now c.deref.result.now c.self.inside.history.items c.front-front.result c.self.inside.board.front c.self.inside.accepted
    c.in_ok-touched.ensures.named c.deref-2.ensures.value c.deref.ensures.value c.front-front.ensures in
    let more : c.self.inside.accepted ≢ c.self.inside.board.front = λ same. c.if-self-front.false (same ∙ sym c.front-front.ensures) in (
      subst (λ (h : List Entry). IsKept c.self.inside.plan h c.self.inside.accepted c.self.inside.tables c.self.inside.board (Some c.in_ok-round.round)) (sym c.in_ok-reserve.ensures.items)
          (begin_kept c.self.inside.plan c.self.inside.history.items c.self.inside.accepted c.self.inside.tables c.self.inside.board c.self.inside.round c.deref-2.result.now c.in_ok-round.round c.self.invariant.0 c.in_default.is more named c.in_ok-round.ensures.jobs
          (c.in_ok-round.ensures.works (inputs_of c.self.inside.history.items) (opening c.self.inside.plan c.self.inside.history.items c.self.inside.accepted c.self.inside.tables c.self.inside.board c.self.inside.round c.deref-2.result.now c.self.invariant.0 named))),
      λ r there. omega (arith, c.in_ok-reserve.ensures.ok, c.in_ok-reserve.ensures.len),
    )

pub returns-clause-step : goal.returns-clause-step
returns-clause-step c =
    let named : AreNamed c.deref-2.result.now (inputs_between (inputs_of c.self.inside.history.items) c.self.inside.board.front c.self.inside.accepted) =
    named_from c.in_ok-touched.touched.items c.deref-2.result.now c.deref.result.now c.self.inside.history.items c.front-front.result c.self.inside.board.front c.self.inside.accepted
    c.in_ok-touched.ensures.named c.deref-2.ensures.value c.deref.ensures.value c.front-front.ensures in
    let more : c.self.inside.accepted ≢ c.self.inside.board.front = λ same. c.if-self-front.false (same ∙ sym c.front-front.ensures) in
    subst (λ (s : CoreState). Begins s (Opened c.self.inside.accepted c.jobs-jobs.result) (state_of_parts c.self.inside.plan c.reserve.new.self.items (Some c.in_ok-round.round))) c.self.view_is
    (begin_step c.self.inside.plan c.self.inside.history.items c.reserve.new.self.items c.self.inside.accepted c.self.inside.tables c.self.inside.board c.self.inside.round
    c.deref-2.result.now c.in_ok-round.round c.jobs-jobs.result c.self.invariant.0 c.in_default.is more named c.in_ok-round.ensures.jobs c.jobs-jobs.ensures c.in_ok-reserve.ensures.items)
