use Rattle.std.proofs.Common.{◌≡◌, length}
use Rattle.command_words.specs.Command.{words_in}
use Rattle.command_words.specs.LiveWords.{are_different_names}
use Rattle.command_words.proofs.live.are_different_names.Given as goal

-- the names that are left decide
abbrev pub invariant-loop-rest : goal.invariant-loop-rest
invariant-loop-rest l = are_different_names (words_in l.rest) ≡ are_different_names (words_in l.names)

abbrev pub decreases-loop-rest : goal.decreases-loop-rest
decreases-loop-rest l = length l.rest
