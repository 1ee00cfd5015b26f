use Rattle.std.proofs.Common.{◌∙◌, rules, tests}
use Rattle.std.proofs.lemmas.Iterator.{YieldsList-from_slice}
use Rattle.std.proofs.lemmas.Iterator.Search.{any_from_yields_List}
use Rattle.clap.proofs.WalkLemmas.{list_any-map}
use Rattle.command_words.specs.Words.{begins_with_dash}
use Rattle.command_words.proofs.words.has_dash_word.Goals as goal

pub returns : goal.returns
returns c =
    any_from_yields_List (λ word. begins_with_dash word.now) _ _ c.any.result c.any.ensures.ran (YieldsList-from_slice _ c.iter.ensures.rest) (λ x b q k. search (rules, tests))
    ∙ list_any-map begins_with_dash (λ word. word.now) c.args.words.now
