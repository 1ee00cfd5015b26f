use Rattle.std.proofs.Common.{◌∙◌, sym, rules}
use Rattle.qna_live.proofs.Statuses.{ends-done, ends-fault}
use Rattle.qna_live.proofs.serving.status_of_ends.Goals as goal

pub loop-end-preserved : goal.loop-end-preserved
loop-end-preserved c =
    ends-done c.args.ends.now c.loop-end.end-index _ _ c.loop-end-test.true c.loop-end.invariant (sym c.status_of_end.ensures ∙ c.in-Done.is)

pub returns-in_default : goal.returns-in_default
returns-in_default c =
    ends-fault c.args.ends.now c.loop-end.end-index _ _ _ c.status_of_end.result c.loop-end-test.true c.loop-end.invariant c.status_of_end.ensures c.in_default.not-Done
