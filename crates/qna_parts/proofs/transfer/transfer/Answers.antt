use Rattle.std.proofs.Common.{◌≡◌, ◌∙◌, ◌-◌, length, take, inl, inr, refl, ap, rules}
use Rattle.qna_edges.specs.Paper.{Paper}
use Rattle.input_rules.specs.Accepted.{accepted}
use Rattle.qna_parts.specs.Intake.{most_bytes, refusals_text, ended_refusals_text}
use Rattle.qna_parts.proofs.Ends.{read_told, passed_told, made_of_input, grown_by, broken_by, output_told, first_of_all}
use Rattle.qna_parts.proofs.transfer.transfer.Goals as goal

pub returns-in-Err-clause-read_told : goal.returns-in-Err-clause-read_told
returns-in-Err-clause-read_told g c = λ is.
    read_told c.in-Err.untaken c.tell_untaken.result _ _ _ _ _ c.args.input.now (λ text rest. ended_refusals_text c.args.plan.now (take (length text - length rest) text)) c.tell_untaken.ensures.status is (λ same. c.in-Err.ensures.read (cc)) c.tell_untaken.ensures.told

pub returns-in-Err-clause-passed_told : goal.returns-in-Err-clause-passed_told
returns-in-Err-clause-passed_told g c = λ is.
    passed_told c.in-Err.untaken c.tell_untaken.result _ _ _ _ c.args.input.now (λ text. ended_refusals_text c.args.plan.now (take most_bytes text)) c.tell_untaken.ensures.status is (λ same. c.in-Err.ensures.passed_reported (cc)) c.tell_untaken.ensures.told

pub returns-in-Ok-make-clause-done : goal.returns-in-Ok-make-clause-done
returns-in-Ok-make-clause-done g c = λ is.
    let made = made_of_input (g.M.Make.text c.args.maker.now) c.args.plan.now _ c.in-Ok.taken.tables c.in-Ok.taken.accepted c.in-Ok-make.text.items c.in-Ok.ensures.taken c.in-Ok-make.ensures in
    grown_by _ _ _ c.in-Ok-make.text.items (λ text. g.M.Make.text c.args.maker.now c.args.plan.now (accepted c.args.plan.now text)) made (rw c.deref.ensures.value at (c.deliver.ensures.done is))

pub returns-in-Ok-make-clause-memory_part : goal.returns-in-Ok-make-clause-memory_part
returns-in-Ok-make-clause-memory_part g c = λ is.
    let made = made_of_input (g.M.Make.text c.args.maker.now) c.args.plan.now _ c.in-Ok.taken.tables c.in-Ok.taken.accepted c.in-Ok-make.text.items c.in-Ok.ensures.taken c.in-Ok-make.ensures in
    inr (broken_by _ _ _ c.in-Ok-make.text.items (λ text. g.M.Make.text c.args.maker.now c.args.plan.now (accepted c.args.plan.now text)) made (rw c.deref.ensures.value at (c.deliver.ensures.broken (inr is))))

pub returns-in-Ok-make-clause-write_fault : goal.returns-in-Ok-make-clause-write_fault
returns-in-Ok-make-clause-write_fault g c = λ is.
    let made = made_of_input (g.M.Make.text c.args.maker.now) c.args.plan.now _ c.in-Ok.taken.tables c.in-Ok.taken.accepted c.in-Ok-make.text.items c.in-Ok.ensures.taken c.in-Ok-make.ensures in
    inr (record {
      rose = c.deliver.ensures.failed is;
      broken = broken_by _ _ _ c.in-Ok-make.text.items (λ text. g.M.Make.text c.args.maker.now c.args.plan.now (accepted c.args.plan.now text)) made (rw c.deref.ensures.value at (c.deliver.ensures.broken (inl is)));
      told = output_told _ _ _ _ c.args.output.now (λ text. refusals_text c.args.plan.now text) c.in-Ok.ensures.reported (c.deliver.ensures.told is);
      taken = c.in-Ok.ensures.ended;
    })

pub returns-in-Ok-make-clause-memory : goal.returns-in-Ok-make-clause-memory
returns-in-Ok-make-clause-memory g c = λ is.
    first_of_all c.args.plan.now _ _ _ _ c.in-Ok.ensures.reported (c.deliver.ensures.silent (inr is))

pub returns-clause-memory : goal.returns-clause-memory
returns-clause-memory g c = λ is. first_of_all c.args.plan.now _ _ _ _ c.in-Ok.ensures.reported refl

pub returns-in-Ok-make-clause-unreported : goal.returns-in-Ok-make-clause-unreported
returns-in-Ok-make-clause-unreported g c = λ is.
    let taken : (g.R.Sink.paper c.take_input.new.report).faults ≡ (g.R.Sink.paper c.args.report.now).faults = c.in-Ok.ensures.unfailed (inl (search rules)) in
    ap (λ (p : Paper). p.faults) (c.deliver.ensures.silent is) ∙ taken

pub returns-clause-unreported : goal.returns-clause-unreported
returns-clause-unreported g c = λ is. c.in-Ok.ensures.unfailed (inl (search rules))
