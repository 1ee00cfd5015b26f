use Rattle.std.proofs.Common.{rules, ◌≡◌, ◌∙◌, sym, arith, codes, true, false, None, Some}
use Rattle.command_words.specs.Command.{words_in}
use Rattle.command_words.specs.Words.{begins_by, texts_between}
use Rattle.command_words.proofs.Trials.{trial_outside, trial_read, trial_unnamed}
use Rattle.command_words.proofs.trial.trial_words.Goals as goal

pub returns-then-not-is_first-clause-read : goal.returns-then-not-is_first-clause-read
returns-then-not-is_first-clause-read c =
    let unnamed : begins_by (codes "trial") (words_in c.args.plain.now.plain.items) ≡ false = search rules in
    sym (trial_unnamed (words_in c.args.plain.now.plain.items) unnamed)

pub returns-in_default-clause-read : goal.returns-in_default-clause-read
returns-in_default-clause-read c =
    let none : None ≡ texts_between 4 4 (words_in c.args.plain.now.plain.items) = search rules in
    trial_outside (words_in c.args.plain.now.plain.items) none

pub returns-clause-read : goal.returns-clause-read
returns-clause-read c =
    let read : Some (words_in c.as_slice.result.now) ≡ texts_between 4 4 (words_in c.args.plain.now.plain.items) = search rules in
    let named : begins_by (codes "trial") (words_in c.args.plain.now.plain.items) ≡ true = search rules in
    c.said_by.ensures.read ∙ trial_read (words_in c.args.plain.now.plain.items) c.as_slice.result.now _ read (omega arith) (omega arith) named
