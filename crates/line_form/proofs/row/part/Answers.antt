-- The part between two commas.
use Rattle.std.proofs.Common.{sym}
use Rattle.line_form.proofs.CommaPlaces.{get_or-cut_at}
use Rattle.line_form.proofs.row.part.Goals as goal

pub returns : goal.returns
returns c = rw (c.start_of.ensures.start, c.end_of.ensures.end) (sym (get_or-cut_at 0 c.args.commas.now c.args.text.now c.args.i c.requires.within))
