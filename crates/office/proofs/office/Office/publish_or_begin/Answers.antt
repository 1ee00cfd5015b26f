use Rattle.std.proofs.Common.{subst}
use Rattle.accounts_core.specs.Step.{Publishes}
use Rattle.accounts_core.specs.declared.replies.Publish.{Publish}
use Rattle.office.specs.Holds.{OneHold}
use Rattle.office.proofs.Holding.{helps_after, published_front, published_none, published_waits}
use Rattle.office.proofs.office.Office.publish_or_begin.Goals as goal

pub returns-in-Published-clause-reply : goal.returns-in-Published-clause-reply
returns-in-Published-clause-reply g c = published_front c.args.pass c.publish-seen.result.0 c.in-Published.front
    (subst (λ (r : Publish). OneHold (λ found left. Publishes found c.args.pass.party r left) c.args.pass c.publish-seen.result.0) c.in-Published.is c.publish-seen.ensures.hold)

pub returns-in-Waiting-clause-reply : goal.returns-in-Waiting-clause-reply
returns-in-Waiting-clause-reply g c = published_waits c.args.pass c.publish-seen.result.0 _
    (subst (λ (r : Publish). OneHold (λ found left. Publishes found c.args.pass.party r left) c.args.pass c.publish-seen.result.0) c.in-Waiting.is c.publish-seen.ensures.hold)

pub returns-in-NoRound-clause-reply : goal.returns-in-NoRound-clause-reply
returns-in-NoRound-clause-reply g c = helps_after c.args.pass c.publish-seen.result.0 c.begin_next.result.0 c.begin_next.result.1 c.publish-seen.ensures.pass.0.3
    (published_none c.args.pass c.publish-seen.result.0 (subst (λ (r : Publish). OneHold (λ found left. Publishes found c.args.pass.party r left) c.args.pass c.publish-seen.result.0) c.in-NoRound.is c.publish-seen.ensures.hold))
    c.begin_next.ensures.reply
