use Rattle.std.proofs.Common.{arith}
use Rattle.qna_parts.proofs.Stages.{nothing_waits, nothing_taken}
use Rattle.qna_parts.proofs.intake.begin.Goals as goal

pub returns-clause-ready : goal.returns-clause-ready
returns-clause-ready c = record {
  items = c.in_ok-new-2.ensures.items;
  few = omega arith;
  goes_on = c.in_ok-new.ensures.1;
  none_waits = nothing_waits c.in_ok-new.field-0 c.in_ok-new.ensures.0 c.in_ok-new.ensures.1;
  all_written = c.new-3.ensures.items;
}

pub returns-clause-taken : goal.returns-clause-taken
returns-clause-taken c = nothing_taken c.args.plan.now c.in_ok-new.field-0 c.in_ok-new-2.field-0 c.in_ok-new.ensures.0 c.in_ok-new-2.ensures.empty
