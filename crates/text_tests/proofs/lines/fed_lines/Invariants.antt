use Rattle.std.proofs.Common.{◌≡◌, false}
use Rattle.text_tests.proofs.lines.fed_lines.Given as goal

abbrev pub invariant-pieces : goal.invariant-pieces
invariant-pieces l = l.lines.ended ≡ false
