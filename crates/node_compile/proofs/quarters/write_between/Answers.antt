use Rattle.std.proofs.Common.{◌≡◌, ◌∙◌, ◌+◌, ◌-◌, ◌*◌, ◌++◌, ◌≤◌, ℕ, ℤ, List, pos, ap, sym, arith, drop, get_or, take}
use Rattle.std.proofs.lemmas.List.{take-append-drop}
use Rattle.denton_parts.specs.Years.{year_in}
use Rattle.extrapolate.specs.Carried.{across_of}
use Rattle.node_compile.proofs.Filling.{across_none}
use Rattle.node_compile.proofs.quarters.write_between.Goals as goal

pub returns-else-from-to : goal.returns-else-from-to
returns-else-from-to c =
    let next : c.args.next ≤ c.args.year + 1 = omega arith in
    let last : 4 * c.args.next ≡ 4 * c.args.year + 4 = omega arith in
    let none : 4 * c.args.next - (4 * c.args.year + 4) ≡ 0 = omega arith in
    let nothing = across_none c.args.scale (year_in c.args.year c.args.left.now) (year_in c.args.next c.args.right.now)
    (get_or c.args.around 0 (pos 0)) (get_or c.args.around 1 (pos 0)) (get_or c.args.around 2 (pos 0))
    (4 * c.args.next - (4 * c.args.year + 4)) (drop (4 * c.args.year + 4) c.args.ind.now) none in
    sym (ap (λ (xs : List ℤ). take (4 * c.args.year + 4) c.args.out.now ++ (xs ++ drop (4 * c.args.next) c.args.out.now))
    nothing
    ∙ ap (λ (n : ℕ). take (4 * c.args.year + 4) c.args.out.now ++ drop n c.args.out.now) last
    ∙ take-append-drop (4 * c.args.year + 4) c.args.out.now)
