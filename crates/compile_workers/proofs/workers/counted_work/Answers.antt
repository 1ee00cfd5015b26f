use Rattle.std.proofs.Common.{refl, rules, append-nil, sym, []}
use Rattle.compile_workers.proofs.Working.{helped_after, looked_after}
use Rattle.compile_workers.proofs.workers.counted_work.Goals as goal

pub loop-init : goal.loop-init
loop-init g c = ((refl, refl, refl, refl, refl, refl, refl), ([], sym (append-nil c.args.pass.seen), refl))

-- memory was wanted
pub returns-in-Memory-clause-nothing : goal.returns-in-Memory-clause-nothing
returns-in-Memory-clause-nothing g c =
    helped_after c.args.pass c.loop.pass c.history_now-known.new.pass c.help-helped.result.0 c.help-helped.result.1
    c.loop.invariant.0 c.loop.invariant.1 c.history_now-known.ensures.pass.0 c.history_now-known.ensures.begins
    c.history_now-known.ensures.own c.help-helped.ensures.reply

pub loop-preserved : goal.loop-preserved
loop-preserved g c = (
  search rules,
  helped_after c.args.pass c.loop.pass c.history_now-known.new.pass c.help-helped.result.0 c.help-helped.result.1
      c.loop.invariant.0 c.loop.invariant.1 c.history_now-known.ensures.pass.0 c.history_now-known.ensures.begins
      c.history_now-known.ensures.own c.help-helped.ensures.reply,
)

-- there was nothing to do
pub loop-preserved-in-Quiet : goal.loop-preserved-in-Quiet
loop-preserved-in-Quiet g c = (
  search rules,
  looked_after c.args.pass c.help-helped.result.0 c.look-pass.result
      (helped_after c.args.pass c.loop.pass c.history_now-known.new.pass c.help-helped.result.0 c.help-helped.result.1
      c.loop.invariant.0 c.loop.invariant.1 c.history_now-known.ensures.pass.0 c.history_now-known.ensures.begins
      c.history_now-known.ensures.own c.help-helped.ensures.reply)
      (search rules) c.look-pass.ensures.nothing,
)
