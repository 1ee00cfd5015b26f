use Rattle.std.proofs.Common.{◌≡◌, drop}
use Rattle.command_words.specs.LiveWords.{digits_value, number_within}
use Rattle.command_words.proofs.Digits.{kept_within}
use Rattle.command_words.proofs.words.number_at_most.Given as goal

abbrev pub invariant-loop-digit : goal.invariant-loop-digit
invariant-loop-digit l = number_within l.most l.word ≡ kept_within l.most (digits_value l.number (drop l.digit-index l.digits))
