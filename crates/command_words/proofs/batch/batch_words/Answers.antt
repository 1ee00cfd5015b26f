use Rattle.std.proofs.Common.{rules, ◌≡◌, ◌∙◌, ap, arith, [], codes, true, is_some, Some}
use Rattle.command_words.specs.Command.{words_in}
use Rattle.command_words.specs.Words.{begins_by, texts_between}
use Rattle.command_words.proofs.Forms.{batch_is, batch_read}
use Rattle.command_words.proofs.batch.batch_words.Goals as goal

pub returns-clause-read : goal.returns-clause-read
returns-clause-read c =
    let read : Some (words_in c.as_slice.result.now) ≡ texts_between 3 3 (words_in c.args.plain.now.plain.items) = search rules in
    let named : begins_by (codes "batch") (words_in c.args.plain.now.plain.items) ≡ true = search rules in
    batch_read (words_in c.args.plain.now.plain.items) c.as_slice.result.now _ read (omega arith) (omega arith) named (search rules)

pub returns-clause-form : goal.returns-clause-form
returns-clause-form c =
    let read : Some (words_in c.as_slice.result.now) ≡ texts_between 3 3 (words_in c.args.plain.now.plain.items) = search rules in
    let named : begins_by (codes "batch") (words_in c.args.plain.now.plain.items) ≡ true = search rules in
    ap is_some (batch_read (words_in c.args.plain.now.plain.items) c.as_slice.result.now (record { ref_ptr = (0, 0); now = [] }) read (omega arith) (omega arith) named (search rules))
    ∙ batch_is (words_in c.args.plain.now.plain.items)
