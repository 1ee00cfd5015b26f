use Rattle.std.proofs.Common.{ap, inl, sym, subst}
use Rattle.qna_edges.specs.declared.status.Status.{Status}
use Rattle.qna_parts.specs.Command.{StopsAtPlan}
use Rattle.qna_parts.proofs.Commands.{spelled_by, stops_unread}
use Rattle.command_words.specs.Views.{live_view, names_in}
use Rattle.qna_live.proofs.Apart.{apart-of}
use Rattle.qna_live.proofs.Plans.{goes-live, plan-refused}
use Rattle.qna_live.proofs.live.live.Goals as goal

pub returns-in-Err : goal.returns-in-Err
returns-in-Err g c =
    inl (subst (λ (s : Status). StopsAtPlan (g.C.Cabinet.shelves c.args.cabinet.now) (g.C.Cabinet.shelves c.read_file.new.cabinet) (g.K.Sink.paper c.args.report.now) (g.K.Sink.paper c.tell_unread.new.report) c.args.said.now.plan.now s) (sym c.tell_unread.ensures.status)
    (stops_unread c.in-Err.unread _ _ _ _ _ (record {
      unopened = λ is. c.in-Err.ensures.opened (cc);
      failed = λ is. c.in-Err.ensures.read (cc);
      within = λ is. c.in-Err.ensures.read_within (cc);
      passed = λ is. c.in-Err.ensures.passed (cc);
      unfailed = λ is. c.in-Err.ensures.memory (cc);
      told = c.tell_unread.ensures.told;
    }) (λ is. ap g.K.Sink.paper (c.tell_unread.ensures.memory is)) c.in-Err.ensures.only))

pub returns-in-Ok-read : goal.returns-in-Ok-read
returns-in-Ok-read g c =
    goes-live (g.C.Cabinet.shelves c.args.cabinet.now) (g.C.Cabinet.shelves c.read_file.new.cabinet) (g.C.Cabinet.shelves c.live_with.new.cabinet) _ _ (live_view c.args.said.now) _ c.in-Ok-read.plan
    (apart-of (names_in (live_view c.args.said.now)) c.requires.different) c.in-Ok.ensures.only (λ tells. spelled_by _ c.in-Ok.text.items c.in-Ok-read.plan (c.in-Ok.ensures.text tells) (rw c.deref.ensures.value at c.in-Ok-read.ensures.plan)) c.in-Ok.ensures.whole
    c.live_with.ensures.ends c.live_with.ensures.only

pub returns-in-Err-Fault : goal.returns-in-Err-Fault
returns-in-Err-Fault g c =
    plan-refused (g.C.Cabinet.shelves c.args.cabinet.now) (g.C.Cabinet.shelves c.read_file.new.cabinet) _ _ (live_view c.args.said.now) _ c.in-Ok.text.items (record { line = c.in-Err-Fault.line; cause = c.in-Err-Fault.cause }) c.tell_plan.ensures.status c.in-Ok.ensures.only
    c.in-Ok.ensures.whole c.in-Ok.ensures.text (rw c.deref.ensures.value at (rw c.in-Err-Fault.field-0-is at c.in-Err-Fault.ensures.fault)) (rw c.in-Err-Fault.field-0-is at c.tell_plan.ensures.told)
