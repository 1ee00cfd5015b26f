use Rattle.std.proofs.Common.{◌∙◌, rules}
use Rattle.office.proofs.Holding.{helps_sent}
use Rattle.office.proofs.Seen.{made_sent, then_sent}
use Rattle.office.proofs.office.Office.sync.Goals as goal

pub returns-then-n-front-clause-nothing : goal.returns-then-n-front-clause-nothing
returns-then-n-front-clause-nothing g c =
    then_sent c.args.pass.party c.loop.pass.party c.args.pass.seen c.loop.pass.seen c.front-seen.result.0.seen c.loop.invariant.0.3 c.loop.invariant.1 (made_sent c.loop.pass.party c.loop.pass.seen c.front-seen.result.0.seen c.front-seen.ensures.nothing)

pub returns-then-eq-clause-nothing : goal.returns-then-eq-clause-nothing
returns-then-eq-clause-nothing g c =
    then_sent c.args.pass.party c.front-seen.result.0.party c.args.pass.seen c.front-seen.result.0.seen c.help-helped.result.0.seen (c.front-seen.ensures.pass.0.3 ∙ c.loop.invariant.0.3)
    (then_sent c.args.pass.party c.loop.pass.party c.args.pass.seen c.loop.pass.seen c.front-seen.result.0.seen c.loop.invariant.0.3 c.loop.invariant.1 (made_sent c.loop.pass.party c.loop.pass.seen c.front-seen.result.0.seen c.front-seen.ensures.nothing))
    (helps_sent c.front-seen.result.0 c.help-helped.result.0 c.help-helped.result.1 c.help-helped.ensures.reply)

pub loop-preserved : goal.loop-preserved
loop-preserved g c = (
  search rules,
  then_sent c.args.pass.party c.front-seen.result.0.party c.args.pass.seen c.front-seen.result.0.seen c.help-helped.result.0.seen (c.front-seen.ensures.pass.0.3 ∙ c.loop.invariant.0.3)
      (then_sent c.args.pass.party c.loop.pass.party c.args.pass.seen c.loop.pass.seen c.front-seen.result.0.seen c.loop.invariant.0.3 c.loop.invariant.1 (made_sent c.loop.pass.party c.loop.pass.seen c.front-seen.result.0.seen c.front-seen.ensures.nothing))
      (helps_sent c.front-seen.result.0 c.help-helped.result.0 c.help-helped.result.1 c.help-helped.ensures.reply),
)
