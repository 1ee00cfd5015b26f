-- The comma after a part lies in the bytes.
use Rattle.std.proofs.Common.{sym, arith}
use Rattle.line_form.proofs.CommaPlaces.{rising_place, end_at-here, end_at-past}
use Rattle.line_form.proofs.row.end_of.Goals as goal

pub returns-then-i-commas-clause-end : goal.returns-then-i-commas-clause-end
returns-then-i-commas-clause-end c = sym (end_at-here c.args.commas.now c.args.i c.args.size (omega arith))

pub returns-then-i-commas-clause-bound : goal.returns-then-i-commas-clause-bound
returns-then-i-commas-clause-bound c = omega (arith, rising_place 0 c.args.commas.now c.args.size c.args.i c.requires.rising (omega arith))

pub returns-else-i-commas-clause-end : goal.returns-else-i-commas-clause-end
returns-else-i-commas-clause-end c = sym (end_at-past c.args.commas.now c.args.i c.args.size (omega arith))
