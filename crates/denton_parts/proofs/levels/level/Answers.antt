use Rattle.std.proofs.Common.{arith, ◌≡◌, ◌∙◌, ap, pos, FitsSigned, get_or, to_z, of_z, to_z-of_z}
use Rattle.std.specs.Int.{w128}
use Rattle.denton_parts.specs.Level.{level_of}
use Rattle.denton_parts.proofs.Machine.{machine}
use Rattle.denton_parts.proofs.levels.level.Goals as goal

pub returns-clause-value : goal.returns-clause-value
returns-clause-value c =
    let inside = c.requires.quarter in
    let size = c.levels_of.ensures.sizes c.args.j (omega arith) in
    let fits : FitsSigned w128 (get_or c.levels_of.result c.args.j (pos 0)) = omega (arith, machine) in
    let made : get_or c.levels_of.result c.args.j (pos 0) ≡ level_of c.args.part.now.ind c.args.part.now.bench c.args.scale (to_z w128 (of_z w128 c.args.left)) (to_z w128 (of_z w128 c.args.right)) c.args.j = c.levels_of.ensures.values c.args.j (omega arith) in
    to_z-of_z fits ∙ made
    ∙ ap (λ u. level_of c.args.part.now.ind c.args.part.now.bench c.args.scale u (to_z w128 (of_z w128 c.args.right)) c.args.j) (to_z-of_z c.ranges.left)
    ∙ ap (λ u. level_of c.args.part.now.ind c.args.part.now.bench c.args.scale c.args.left u c.args.j) (to_z-of_z c.ranges.right)
