use Rattle.std.proofs.Common.{rules, ◌≡◌, ◌∙◌, sym, ap, ap₂, Some}
use Rattle.std.specs.Option.{option_map}
use Rattle.clap.specs.Simple.{with_rule}
use Rattle.command_words.specs.Command.{words_in}
use Rattle.command_words.proofs.TextWalk.{rule_is, tells, texts_refused, texts_taken}
use Rattle.command_words.proofs.texts.texts_of.Goals as goal

pub returns-in-Some : goal.returns-in-Some
returns-in-Some c =
    let rule = rule_is c.new.result c.required.result c.num_args.result c.action-texts.result c.args.least c.args.most c.new-2.result.start c.new-2.result.end
    c.new.ensures.rule (search rules) c.num_args.ensures.0 c.num_args.ensures.1 c.new-2.ensures.start c.new-2.ensures.end c.requires.range (search rules) in
    let is = c.in_ok-command.ensures.shape (search rules) ∙ ap₂ with_rule c.new-3.ensures.app rule in
    let said = tells c.args.least c.args.most (words_in c.args.words.now) c.requires.some c.requires.range c.requires.plain in
    let got = texts_taken _ c.args.least c.args.most (words_in c.args.words.now) c.in-Ok.matches (option_map (λ s. words_in s.now) c.get_strs.result) is said
    c.in-Ok.ensures.kinds c.in-Ok.ensures.matches c.get_strs.ensures in
    let texts : words_in c.in_ok-to_vec-in-Some.field-0.items ≡ words_in c.in-Some.texts.now = search rules in
    ap (λ t. Some t) texts ∙ sym (ap (option_map (λ s. words_in s.now)) c.in-Some.is) ∙ got

pub returns-in-Ok : goal.returns-in-Ok
returns-in-Ok c =
    let rule = rule_is c.new.result c.required.result c.num_args.result c.action-texts.result c.args.least c.args.most c.new-2.result.start c.new-2.result.end
    c.new.ensures.rule (search rules) c.num_args.ensures.0 c.num_args.ensures.1 c.new-2.ensures.start c.new-2.ensures.end c.requires.range (search rules) in
    let is = c.in_ok-command.ensures.shape (search rules) ∙ ap₂ with_rule c.new-3.ensures.app rule in
    let said = tells c.args.least c.args.most (words_in c.args.words.now) c.requires.some c.requires.range c.requires.plain in
    let got = texts_taken _ c.args.least c.args.most (words_in c.args.words.now) c.in-Ok.matches (option_map (λ s. words_in s.now) c.get_strs.result) is said
    c.in-Ok.ensures.kinds c.in-Ok.ensures.matches c.get_strs.ensures in
    sym (ap (option_map (λ s. words_in s.now)) c.in-None.is) ∙ got

pub returns : goal.returns
returns c =
    let rule = rule_is c.new.result c.required.result c.num_args.result c.action-texts.result c.args.least c.args.most c.new-2.result.start c.new-2.result.end
    c.new.ensures.rule (search rules) c.num_args.ensures.0 c.num_args.ensures.1 c.new-2.ensures.start c.new-2.ensures.end c.requires.range (search rules) in
    let is = c.in_ok-command.ensures.shape (search rules) ∙ ap₂ with_rule c.new-3.ensures.app rule in
    let said = tells c.args.least c.args.most (words_in c.args.words.now) c.requires.some c.requires.range c.requires.plain in
    texts_refused _ c.args.least c.args.most (words_in c.args.words.now) c.in-Err.error is said c.in-Err.ensures.kinds (λ e. c.in_default.not-OutOfMemory (c.kind.ensures ∙ e))
