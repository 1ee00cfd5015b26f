use Rattle.std.proofs.Common.{◌≡◌, Some}
use Rattle.command_words.specs.BatchWords.{check_form}
use Rattle.command_words.specs.Command.{words_in}
use Rattle.command_words.specs.Words.{plain_of, plain_view}
use Rattle.command_words.proofs.Callers.{on_check}
use Rattle.qna_cli.specs.CheckEnd.{IsCheckEnd}
use Rattle.qna_cli.proofs.check.run_check.Goals as goal

pub returns-in-Ok-Some-check_words-clause-ends : goal.returns-in-Ok-Some-check_words-clause-ends
returns-in-Ok-Some-check_words-clause-ends g c =
    let plain : Some (plain_view c.in-Ok-Some.plain) ≡ plain_of (words_in c.args.words.now) =
    rw c.in-Ok-Some.field-0-is at c.in-Ok-Some.ensures.read in
    let name : Some c.in-Ok-Some-check_words.name.now ≡ check_form (plain_view c.in-Ok-Some.plain).plain =
    rw c.in-Ok-Some-check_words.field-0-is at c.in-Ok-Some-check_words.ensures.read in
    on_check (λ name. IsCheckEnd (g.C.Cabinet.shelves c.args.cabinet.now) (g.C.Cabinet.shelves c.check.new.cabinet)
    (g.K.Sink.paper c.args.report.now) (g.K.Sink.paper c.check.new.report) name c.check.result) _ _ _ plain name
    c.check.ensures
