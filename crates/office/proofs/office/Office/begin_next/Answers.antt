use Rattle.std.proofs.Common.{◌≡◌, ◌∙◌, ap, subst, Ok, Result}
use Rattle.qna_base.specs.declared.Memory.{Memory}
use Rattle.accounts_core.specs.declared.replies.Begin.{Begin}
use Rattle.accounts_core.specs.declared.replies.Begin.TheVariants.{Nothing, Opened, RoundOpen}
use Rattle.office.specs.Holds.{OneHold}
use Rattle.office.proofs.Holding.{Begun, begun_none, begun_nothing, begun_open, begun_opened}
use Rattle.office.proofs.office.Office.begin_next.Goals as goal

pub returns-in-Opened-clause-reply : goal.returns-in-Opened-clause-reply
returns-in-Opened-clause-reply g c =
    let is : c.begin-seen.result.1 ≡ Ok (Opened c.in-Opened.front c.in-Opened.jobs) = c.in-Ok.is ∙ ap (λ (b : Begin). Ok b) c.in-Opened.is in
    begun_opened c.args.pass c.begin-seen.result.0 c.in-Opened.front c.in-Opened.jobs c.begin-seen.ensures.pass.0.2
    (subst (λ (r : Result Begin Memory). OneHold (Begun r) c.args.pass c.begin-seen.result.0) is c.begin-seen.ensures.hold)

pub returns-in-Nothing-clause-reply : goal.returns-in-Nothing-clause-reply
returns-in-Nothing-clause-reply g c =
    let is : c.begin-seen.result.1 ≡ Ok (Nothing c.in-Nothing.front) = c.in-Ok.is ∙ ap (λ (b : Begin). Ok b) c.in-Nothing.is in
    begun_nothing c.args.pass c.begin-seen.result.0 c.in-Nothing.front (subst (λ (r : Result Begin Memory). OneHold (Begun r) c.args.pass c.begin-seen.result.0) is c.begin-seen.ensures.hold)

pub returns-in-RoundOpen-clause-reply : goal.returns-in-RoundOpen-clause-reply
returns-in-RoundOpen-clause-reply g c =
    let is : c.begin-seen.result.1 ≡ Ok (RoundOpen c.in-RoundOpen.field-0) = c.in-Ok.is ∙ ap (λ (b : Begin). Ok b) c.in-RoundOpen.is in
    begun_open c.args.pass c.begin-seen.result.0 c.in-RoundOpen.field-0 (subst (λ (r : Result Begin Memory). OneHold (Begun r) c.args.pass c.begin-seen.result.0) is c.begin-seen.ensures.hold)

pub returns-in_default-clause-reply : goal.returns-in_default-clause-reply
returns-in_default-clause-reply g c =
    begun_none c.args.pass c.begin-seen.result.0 _ (subst (λ (r : Result Begin Memory). OneHold (Begun r) c.args.pass c.begin-seen.result.0) c.in_default.is c.begin-seen.ensures.hold)
