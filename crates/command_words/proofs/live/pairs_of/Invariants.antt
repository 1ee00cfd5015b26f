use Rattle.std.proofs.Common.{◌≡◌, ◌++◌, length, map}
use Rattle.std.specs.Option.{option_map}
use Rattle.command_words.specs.Command.{words_in}
use Rattle.command_words.specs.LiveWords.{desks_in}
use Rattle.command_words.specs.Views.{files_of}
use Rattle.command_words.proofs.live.pairs_of.Given as goal

-- the pairs so far, and then those of the texts that are left
abbrev pub invariant-loop-rest : goal.invariant-loop-rest
invariant-loop-rest l = desks_in (words_in l.texts) ≡ option_map (λ desks. map files_of l.pairs.items ++ desks) (desks_in (words_in l.rest))

abbrev pub decreases-loop-rest : goal.decreases-loop-rest
decreases-loop-rest l = length l.rest
