use Rattle.std.proofs.Common.{rules, tests}
use Rattle.std.proofs.lemmas.Iterator.{YieldsList-from_slice}
use Rattle.std.proofs.lemmas.Iterator.Search.{position_from_yields_List}
use Rattle.command_words.proofs.Plain.{place_or_len}
use Rattle.command_words.specs.Words.{begins_with_dash}
use Rattle.command_words.proofs.words.dash_place.Goals as goal

pub returns-clause-place : goal.returns-clause-place
returns-clause-place c =
    let found = position_from_yields_List (λ word. begins_with_dash word.now) _ _ c.position.result c.position.ensures.ran (YieldsList-from_slice _ c.iter.ensures.rest) (λ x b q k. search (rules, tests)) in
    place_or_len c.args.words.now c.position.result c.unwrap_or.result found c.unwrap_or.ensures
