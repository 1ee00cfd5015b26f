-- The comma before a part lies in the bytes.
use Rattle.std.proofs.Common.{◌≡◌, ◌≤◌, ◌+◌, ◌-◌, ℕ, suc, get_or, sym, arith, subst}
use Rattle.line_form.specs.Commas.{start_at, end_at}
use Rattle.line_form.proofs.CommaPlaces.{rising_place, start_at-later, start_at-zero, part_order}
use Rattle.line_form.proofs.row.start_of.Goals as goal

pub overflow_add-result : goal.overflow_add-result
overflow_add-result c = omega (arith, rising_place 0 c.args.commas.now c.args.size (c.args.i - 1) c.requires.rising (omega arith))

pub returns-then-i-eq0-clause-start : goal.returns-then-i-eq0-clause-start
returns-then-i-eq0-clause-start c = rw c.if-i-eq0.true (sym (start_at-zero 0 c.args.commas.now))

pub returns-else-i-eq0-clause-start : goal.returns-else-i-eq0-clause-start
returns-else-i-eq0-clause-start c =
    let P : ℕ → Type 0 = λ n. get_or c.args.commas.now (c.args.i - 1) 0 + 1 ≡ start_at 0 c.args.commas.now n in
    let same : suc (c.args.i - 1) ≡ c.args.i = omega arith in
    subst P same (sym (start_at-later 0 c.args.commas.now (c.args.i - 1) (omega arith)))

pub returns-else-i-eq0-clause-bound : goal.returns-else-i-eq0-clause-bound
returns-else-i-eq0-clause-bound c =
    let P : ℕ → Type 0 = λ n. n ≤ end_at c.args.commas.now c.args.i c.args.size in
    subst P (sym (returns-else-i-eq0-clause-start c)) (part_order 0 c.args.commas.now c.args.i c.args.size c.requires.rising c.requires.within)
