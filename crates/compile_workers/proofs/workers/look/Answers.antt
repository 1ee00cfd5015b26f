use Rattle.std.proofs.Common.{refl, rules, append-nil, sym, []}
use Rattle.office.proofs.Seen.{made_nothing, then_made}
use Rattle.compile_workers.proofs.workers.look.Goals as goal

pub loop-init : goal.loop-init
loop-init c = ((refl, refl, refl, refl, refl, refl, refl), ([], sym (append-nil c.args.pass.seen), refl))

pub returns-then-known-history_now-clause-nothing : goal.returns-then-known-history_now-clause-nothing
returns-then-known-history_now-clause-nothing c =
    then_made c.args.pass.party c.loop.pass.party c.args.pass.seen c.loop.pass.seen c.history_now.new.pass.seen
    c.loop.invariant.0.3 c.loop.invariant.1
    (made_nothing c.loop.pass.party c.loop.pass.seen c.history_now.new.pass.seen c.history_now.ensures.begins
    (search (rules, c.history_now.ensures.own)))

pub loop-preserved : goal.loop-preserved
loop-preserved c = (
  search rules,
  then_made c.args.pass.party c.loop.pass.party c.args.pass.seen c.loop.pass.seen c.history_now.new.pass.seen
      c.loop.invariant.0.3 c.loop.invariant.1
      (made_nothing c.loop.pass.party c.loop.pass.seen c.history_now.new.pass.seen c.history_now.ensures.begins
      (search (rules, c.history_now.ensures.own))),
)
