use Rattle.std.proofs.Common.{◌≡◌, ◌++◌, drop}
use Rattle.line_form.specs.Commas.{commas_from}
use Rattle.line_form.proofs.reading.cut_at_commas.Given as goal

abbrev pub invariant-loop-i : goal.invariant-loop-i
invariant-loop-i l = l.commas.items ++ commas_from l.i (drop l.i l.text) ≡ commas_from 0 l.text
