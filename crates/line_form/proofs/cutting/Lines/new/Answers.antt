-- Nothing has come, and nothing is cut.
use Rattle.std.proofs.Common.{refl}
use Rattle.line_form.proofs.CutLines.{nothing_cut}
use Rattle.line_form.proofs.cutting.Lines.new.Goals as goal

pub returns : goal.returns
returns c = rw (c.new.ensures.items, c.in_ok-rest.ensures.items) (nothing_cut, refl)
