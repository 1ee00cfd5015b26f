use Rattle.std.proofs.Common.{◌∙◌, ap, ap₂, sym}
use Rattle.std.specs.List.{list_any}
use Rattle.std.proofs.lemmas.Result.{IfOk-weaker}
use Rattle.command_words.specs.Command.{is_batch, is_check, words_in}
use Rattle.command_words.specs.Words.{begins_with_dash, plain_is, plain_with}
use Rattle.command_words.proofs.Plain.{batch_plain, check_plain, cut_back, cut_front, front_plain, plain_of_is}
use Rattle.command_words.proofs.words.plain_words.Goals as goal

pub with_workers-requires : goal.with_workers-requires
with_workers-requires c =
    ap (list_any begins_with_dash) (cut_front c.args.words.now c.split_at.result.0.now c.dash_place.result c.split_at.ensures.front c.dash_place.ensures.place)
    ∙ front_plain (words_in c.args.words.now)

pub returns-clause-read : goal.returns-clause-read
returns-clause-read c =
    let front = cut_front c.args.words.now c.split_at.result.0.now c.dash_place.result c.split_at.ensures.front c.dash_place.ensures.place in
    let back = cut_back c.args.words.now c.split_at.result.1.now c.dash_place.result c.split_at.ensures.back c.dash_place.ensures.place in
    IfOk-weaker c.with_workers.result _ _ (λ read e. e ∙ ap₂ plain_with front back ∙ plain_of_is (words_in c.args.words.now)) c.with_workers.ensures.read

pub returns-clause-batch : goal.returns-clause-batch
returns-clause-batch c =
    let front = cut_front c.args.words.now c.split_at.result.0.now c.dash_place.result c.split_at.ensures.front c.dash_place.ensures.place in
    let back = cut_back c.args.words.now c.split_at.result.1.now c.dash_place.result c.split_at.ensures.back c.dash_place.ensures.place in
    IfOk-weaker c.with_workers.result _ _ (λ read e. batch_plain (words_in c.args.words.now)
    ∙ sym (ap (plain_is is_batch) (e ∙ ap₂ plain_with front back ∙ plain_of_is (words_in c.args.words.now)))) c.with_workers.ensures.read

pub returns-clause-check : goal.returns-clause-check
returns-clause-check c =
    let front = cut_front c.args.words.now c.split_at.result.0.now c.dash_place.result c.split_at.ensures.front c.dash_place.ensures.place in
    let back = cut_back c.args.words.now c.split_at.result.1.now c.dash_place.result c.split_at.ensures.back c.dash_place.ensures.place in
    IfOk-weaker c.with_workers.result _ _ (λ read e. check_plain (words_in c.args.words.now)
    ∙ sym (ap (plain_is is_check) (e ∙ ap₂ plain_with front back ∙ plain_of_is (words_in c.args.words.now)))) c.with_workers.ensures.read
