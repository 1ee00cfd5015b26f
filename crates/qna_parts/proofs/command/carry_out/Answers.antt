use Rattle.std.proofs.Common.{ap, sym, subst, inl, inr, rules}
use Rattle.qna_edges.specs.declared.status.Status.{Status}
use Rattle.qna_parts.specs.Trace.{Trace, IsReadWhole}
use Rattle.qna_parts.specs.Command.{plan_limit, StopsAtPlan}
use Rattle.qna_parts.proofs.Commands.{stops_unread, spelled_by, later_trace, ends_from, only_command}
use Rattle.qna_parts.proofs.command.carry_out.Goals as goal

pub returns-in-Err : goal.returns-in-Err
returns-in-Err g c =
    inl (subst (λ (s : Status). StopsAtPlan (g.C.Cabinet.shelves c.args.cabinet.now) (g.C.Cabinet.shelves c.read_file.new.cabinet) (g.R.Sink.paper c.args.report.now) (g.R.Sink.paper c.tell_unread.new.report) c.args.plan.now s) (sym c.tell_unread.ensures.status)
    (stops_unread c.in-Err.unread _ _ _ _ _ (record {
      unopened = λ is. c.in-Err.ensures.opened (cc);
      failed = λ is. c.in-Err.ensures.read (cc);
      within = λ is. c.in-Err.ensures.read_within (cc);
      passed = λ is. c.in-Err.ensures.passed (cc);
      unfailed = λ is. c.in-Err.ensures.memory (cc);
      told = c.tell_unread.ensures.told;
    }) (λ is. ap g.R.Sink.paper (c.tell_unread.ensures.memory is)) c.in-Err.ensures.only))

pub returns-in-Ok-read : goal.returns-in-Ok-read
returns-in-Ok-read g c = inr (record {
  shape = c.in-Ok-read.plan;
  spelled = λ tells. spelled_by _ c.in-Ok.text.items c.in-Ok-read.plan (c.in-Ok.ensures.text tells) (rw c.deref.ensures.value at c.in-Ok-read.ensures.plan);
  read = subst (λ (t : Trace). IsReadWhole plan_limit t) (later_trace (g.C.Cabinet.shelves c.args.cabinet.now) (g.C.Cabinet.shelves c.read_file.new.cabinet) (g.C.Cabinet.shelves c.between.new.cabinet) c.args.plan.now (c.between.ensures.only.others c.args.plan.now (search rules) (search rules))) c.in-Ok.ensures.whole;
  ends = ends_from _ _ (g.C.Cabinet.shelves c.args.cabinet.now) (g.C.Cabinet.shelves c.read_file.new.cabinet) (g.C.Cabinet.shelves c.between.new.cabinet) _ _ c.args.plan.now c.args.input.now c.args.output.now _ c.in-Ok.ensures.only (search rules) (search rules) c.between.ensures.ends;
  only = only_command (g.C.Cabinet.shelves c.args.cabinet.now) (g.C.Cabinet.shelves c.read_file.new.cabinet) (g.C.Cabinet.shelves c.between.new.cabinet) c.args.plan.now c.args.input.now c.args.output.now c.in-Ok.ensures.only c.between.ensures.only (search rules) (search rules);
})
