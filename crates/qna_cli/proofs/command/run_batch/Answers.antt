use Rattle.std.proofs.Common.{◌≡◌, Some}
use Rattle.command_words.specs.BatchWords.{batch_form, batch_view}
use Rattle.command_words.specs.Command.{words_in}
use Rattle.command_words.specs.Words.{plain_of, plain_view}
use Rattle.command_words.proofs.Callers.{on_batch}
use Rattle.qna_cli.specs.Batch.{IsBatchEnd}
use Rattle.qna_cli.proofs.command.run_batch.Goals as goal

pub returns-in-Ok-Some-batch_words-clause-ends : goal.returns-in-Ok-Some-batch_words-clause-ends
returns-in-Ok-Some-batch_words-clause-ends g c =
    let plain : Some (plain_view c.in-Ok-Some.plain) ≡ plain_of (words_in c.args.words.now) =
    rw c.in-Ok-Some.field-0-is at c.in-Ok-Some.ensures.read in
    let names : Some (batch_view c.in-Ok-Some-batch_words.names) ≡ batch_form (plain_view c.in-Ok-Some.plain).plain =
    rw c.in-Ok-Some-batch_words.field-0-is at c.in-Ok-Some-batch_words.ensures.read in
    on_batch (λ plan input output. IsBatchEnd (g.C.Cabinet.shelves c.args.cabinet.now)
    (g.C.Cabinet.shelves c.carry_out.new.cabinet) (g.K.Sink.paper c.args.report.now)
    (g.K.Sink.paper c.carry_out.new.report) plan input output c.carry_out.result) _ _ _ plain names
    c.carry_out.ensures
