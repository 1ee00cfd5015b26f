use Rattle.std.proofs.Common.{◌≡◌, ◌∙◌, ap, rules, subst, sym, Ok, Option, Result}
use Rattle.std.specs.Option.{ForSome}
use Rattle.qna_base.specs.declared.Memory.{Memory}
use Rattle.series_tables.specs.Fits.{FitsPlan}
use Rattle.series_tables.specs.Plan.{PlanShape}
use Rattle.accounts_core.specs.declared.replies.Accept.{Accept}
use Rattle.accounts_core.specs.declared.replies.Accept.TheVariants.{Behind, Full, Number}
use Rattle.office.specs.Holds.{OneHold}
use Rattle.office.proofs.Holding.{Offers, helps_sent, offered_behind, offered_full, offered_none, offered_number}
use Rattle.office.proofs.Seen.{then_one, then_sent}
use Rattle.office.proofs.office.Office.submit.Goals as goal

pub offer-seen-requires-clause-fits : goal.offer-seen-requires-clause-fits
offer-seen-requires-clause-fits g c = subst (λ (o : Option PlanShape). ForSome o (λ plan. FitsPlan plan c.args.input)) (sym c.loop.invariant.0.2) c.requires.fits

pub returns-in-Number-clause-reply : goal.returns-in-Number-clause-reply
returns-in-Number-clause-reply g c =
    let is : c.offer-seen.result.1 ≡ Ok (Number c.in-Number.number) = c.in-Ok.is ∙ ap (λ (a : Accept). Ok a) c.in-Number.is in
    let hold = subst (λ (r : Result Accept Memory). OneHold (Offers c.loop.pass.party c.args.input r) c.loop.pass c.offer-seen.result.0) is c.offer-seen.ensures.hold in
    then_one c.args.pass.party c.loop.pass.party c.args.input c.in-Number.number c.args.pass.seen c.loop.pass.seen c.offer-seen.result.0.seen c.loop.invariant.0.3 c.loop.invariant.1
    (offered_number c.loop.pass c.offer-seen.result.0 c.args.input c.in-Number.number hold)

pub returns-in-Full-clause-reply : goal.returns-in-Full-clause-reply
returns-in-Full-clause-reply g c =
    let is : c.offer-seen.result.1 ≡ Ok Full = c.in-Ok.is ∙ ap (λ (a : Accept). Ok a) c.in-Full.is in
    let hold = subst (λ (r : Result Accept Memory). OneHold (Offers c.loop.pass.party c.args.input r) c.loop.pass c.offer-seen.result.0) is c.offer-seen.ensures.hold in
    let full = offered_full c.loop.pass c.offer-seen.result.0 c.args.input hold in
    (then_sent c.args.pass.party c.loop.pass.party c.args.pass.seen c.loop.pass.seen c.offer-seen.result.0.seen c.loop.invariant.0.3 c.loop.invariant.1 full.0, full.1)

pub returns-in_default-clause-reply : goal.returns-in_default-clause-reply
returns-in_default-clause-reply g c =
    let hold = subst (λ (r : Result Accept Memory). OneHold (Offers c.loop.pass.party c.args.input r) c.loop.pass c.offer-seen.result.0) c.in_default.is c.offer-seen.ensures.hold in
    then_sent c.args.pass.party c.loop.pass.party c.args.pass.seen c.loop.pass.seen c.offer-seen.result.0.seen c.loop.invariant.0.3 c.loop.invariant.1 (offered_none c.loop.pass c.offer-seen.result.0 c.args.input _ hold)

pub returns-then-eq-clause-reply : goal.returns-then-eq-clause-reply
returns-then-eq-clause-reply g c =
    let is : c.offer-seen.result.1 ≡ Ok (Behind c.in-Behind.accepted c.in-Behind.published) = c.in-Ok.is ∙ ap (λ (a : Accept). Ok a) c.in-Behind.is in
    let hold = subst (λ (r : Result Accept Memory). OneHold (Offers c.loop.pass.party c.args.input r) c.loop.pass c.offer-seen.result.0) is c.offer-seen.ensures.hold in
    then_sent c.args.pass.party c.offer-seen.result.0.party c.args.pass.seen c.offer-seen.result.0.seen c.help-helped.result.0.seen (c.offer-seen.ensures.pass.0.3 ∙ c.loop.invariant.0.3)
    (then_sent c.args.pass.party c.loop.pass.party c.args.pass.seen c.loop.pass.seen c.offer-seen.result.0.seen c.loop.invariant.0.3 c.loop.invariant.1 (offered_behind c.loop.pass c.offer-seen.result.0 c.args.input c.in-Behind.accepted c.in-Behind.published hold))
    (helps_sent c.offer-seen.result.0 c.help-helped.result.0 c.help-helped.result.1 c.help-helped.ensures.reply)

pub loop-preserved : goal.loop-preserved
loop-preserved g c =
    let is : c.offer-seen.result.1 ≡ Ok (Behind c.in-Behind.accepted c.in-Behind.published) = c.in-Ok.is ∙ ap (λ (a : Accept). Ok a) c.in-Behind.is in
    let hold = subst (λ (r : Result Accept Memory). OneHold (Offers c.loop.pass.party c.args.input r) c.loop.pass c.offer-seen.result.0) is c.offer-seen.ensures.hold in (
      search rules,
      then_sent c.args.pass.party c.offer-seen.result.0.party c.args.pass.seen c.offer-seen.result.0.seen c.help-helped.result.0.seen (c.offer-seen.ensures.pass.0.3 ∙ c.loop.invariant.0.3)
          (then_sent c.args.pass.party c.loop.pass.party c.args.pass.seen c.loop.pass.seen c.offer-seen.result.0.seen c.loop.invariant.0.3 c.loop.invariant.1 (offered_behind c.loop.pass c.offer-seen.result.0 c.args.input c.in-Behind.accepted c.in-Behind.published hold))
          (helps_sent c.offer-seen.result.0 c.help-helped.result.0 c.help-helped.result.1 c.help-helped.ensures.reply),
    )
