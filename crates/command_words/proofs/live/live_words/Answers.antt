use Rattle.std.proofs.Common.{rules, ◌≡◌, None}
use Rattle.std.specs.Option.{option_map}
use Rattle.command_words.specs.Command.{words_in}
use Rattle.command_words.specs.Words.{texts_between}
use Rattle.command_words.proofs.Desks.{live_outside}
use Rattle.command_words.proofs.live.live_words.Goals as goal

pub returns-in_default-clause-read : goal.returns-in_default-clause-read
returns-in_default-clause-read c =
    let none : None ≡ texts_between 4 34 (words_in c.args.plain.now.plain.items) = search rules in
    live_outside (words_in c.args.plain.now.plain.items) (option_map (λ word. word.now) c.args.plain.now.workers) none
