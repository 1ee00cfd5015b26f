use Rattle.std.proofs.Common.{arith, ◌≡◌, ◌++◌, ◌∷◌, [], pos, get_or, to_z, of_z}
use Rattle.std.specs.Int.{w64}
use Rattle.std.proofs.Math.ListN.{length-append}
use Rattle.std.proofs.lemmas.Int.{to_z-of_z}
use Rattle.denton_parts.specs.Years.{year_in, year_at}
use Rattle.dual_cert.proofs.Totals.{parts_more}
use Rattle.dual_cert.proofs.verdict.parts_of.Goals as goal

pub loop-y-preserved : goal.loop-y-preserved
loop-y-preserved c =
    let longer : c.push.new.self.items ≡ c.loop-y.parts.items ++ c.part_at.result ∷ [] = c.in_ok-push.ensures.items in
    let count = c.loop-y.invariant.count in
    let stays : to_z w64 (of_z w64 (get_or c.args.bench.now c.loop-y.y (pos 0)))
    ≡ get_or c.args.bench.now c.loop-y.y (pos 0) = grind (arith, to_z-of_z) in
    let one : year_in (get_or c.args.years.now c.loop-y.y 0) c.part_at.result
    ≡ year_at c.args.ind.now (get_or c.args.years.now c.loop-y.y 0) (get_or c.args.bench.now c.loop-y.y (pos 0)) =
    rw stays at c.part_at.ensures in
    record {
      count = rw longer (omega (arith, length-append c.loop-y.parts.items (c.part_at.result ∷ [])));
      years = rw longer (parts_more c.args.ind.now c.args.years.now c.args.bench.now c.loop-y.parts.items
          c.part_at.result c.loop-y.y (omega arith) c.requires.placed count c.loop-y.invariant.years one);
    }
