use Rattle.std.proofs.Common.{rules, ◌≡◌, Some, None, map, true}
use Rattle.std.specs.Option.{option_map}
use Rattle.command_words.specs.Command.{words_in}
use Rattle.command_words.specs.LiveWords.{are_different_names, desks_in, workers_in}
use Rattle.command_words.specs.Views.{files_of}
use Rattle.command_words.proofs.Desks.{live_desks, live_different, live_read, live_unmanned, workers_few}
use Rattle.command_words.proofs.live.said_by.Goals as goal

pub returns-in_default-clause-read : goal.returns-in_default-clause-read
returns-in_default-clause-read c =
    let none : None ≡ workers_in (option_map (λ w. w.now) c.args.word) = search rules in
    live_unmanned (words_in c.args.texts.now) (option_map (λ w. w.now) c.args.word) none

pub returns-clause-read : goal.returns-clause-read
returns-clause-read c =
    let different : are_different_names (words_in c.args.texts.now) ≡ true = search rules in
    let pairs : Some (map files_of c.in-Some-2.desks.items) ≡ desks_in (words_in c.split_at.result.1.now) = search rules in
    let workers : Some c.in-Some.workers ≡ workers_in (option_map (λ w. w.now) c.args.word) = search rules in
    live_read c.args.texts.now c.split_at.result.0.now c.split_at.result.1.now _ (map files_of c.in-Some-2.desks.items) c.in-Some.workers
    (option_map (λ w. w.now) c.args.word) c.split_at.ensures.front c.split_at.ensures.back c.requires.least c.requires.most different pairs workers

pub returns-clause-form : goal.returns-clause-form
returns-clause-form c =
    let different : are_different_names (words_in c.args.texts.now) ≡ true = search rules in
    let pairs : Some (map files_of c.in-Some-2.desks.items) ≡ desks_in (words_in c.split_at.result.1.now) = search rules in
    let workers : Some c.in-Some.workers ≡ workers_in (option_map (λ w. w.now) c.args.word) = search rules in
    record {
      different = live_different c.args.texts.now c.split_at.result.0.now c.split_at.result.1.now _ (map files_of c.in-Some-2.desks.items)
          c.split_at.ensures.front c.split_at.ensures.back c.requires.least different pairs;
      desks = live_desks c.args.texts.now c.split_at.result.1.now (map files_of c.in-Some-2.desks.items) c.split_at.ensures.back c.requires.least c.requires.most pairs;
      workers = workers_few c.in-Some.workers (option_map (λ w. w.now) c.args.word) workers;
    }
