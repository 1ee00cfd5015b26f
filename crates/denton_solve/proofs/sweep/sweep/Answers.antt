use Rattle.std.proofs.Common.{rules, arith, ◌≡◌, ◌+◌, pos, ◌*ℤ◌, ◌+ℤ◌, ◌-ℤ◌, FitsSigned, to_z, ◌∷◌, get_or, set, drop, refl, ap, ◌∙◌, sym}
use Rattle.std.specs.Int.{w128}
use Rattle.std.proofs.lemmas.Int.{to_z-of_z}
use Rattle.std.proofs.lemmas.List.{set-get_or}
use Rattle.ratio_arith.specs.Division.{floor_of}
use Rattle.denton_parts.specs.Level.{ratio_floor}
use Rattle.denton_parts.specs.Years.{year_in, years_apart}
use Rattle.denton_parts.specs.declared.year.YearPart.{YearPart}
use Rattle.denton_solve.specs.Sweeps.{cut_of, first_of, sweep_of}
use Rattle.denton_solve.proofs.Joints.{apart_count, scaled_at}
use Rattle.denton_solve.proofs.Rows.{swept, agree_more, agreed_before}
use Rattle.denton_solve.proofs.Steps.{sweep_of-is, swept_all, next_ends, first_of-drop}
use Rattle.denton_solve.proofs.sweep.sweep.Goals as goal

pub ends_at-last-requires-clause-scaled : goal.ends_at-last-requires-clause-scaled
ends_at-last-requires-clause-scaled g c = λ other.
    scaled_at c.args.scale c.args.miss.now c.args.parts.now 0 other (omega arith) (omega arith) c.requires.scaled

pub ends_at-next-requires-clause-scaled : goal.ends_at-next-requires-clause-scaled
ends_at-next-requires-clause-scaled g c = λ other.
    scaled_at c.args.scale c.args.miss.now c.args.parts.now (c.loop-y.y + 1) other (omega arith) (omega arith)
    c.requires.scaled

pub loop-y-init : goal.loop-y-init
loop-y-init g c =
    let fits : FitsSigned w128 c.ends_at-last.result.last = search rules in
    let same = to_z-of_z w128 c.ends_at-last.result.last fits in
    record {
      done = sweep_of-is c.args.scale (years_apart 0 c.args.miss.now c.args.parts.now) c.args.from.now;
      ends = λ other. same ∙ c.ends_at-last.ensures.last other;
      size = rw same c.ends_at-last.ensures.last_size;
      still = (λ t. refl, λ e. refl);
      back = λ t. refl;
      count = omega arith;
    }

pub width-requires : goal.width-requires
width-requires g c = c.requires.few c.loop-y.y 0 (omega arith)

pub bounds-weights-y : goal.bounds-weights-y
bounds-weights-y g c =
    let count = apart_count 0 c.args.miss.now c.args.parts.now (omega arith) in
    let weights = c.requires.weights.count in
    omega arith

pub moved-after-requires-clause-weight : goal.moved-after-requires-clause-weight
moved-after-requires-clause-weight g c =
    let count = apart_count 0 c.args.miss.now c.args.parts.now (omega arith) in
    let fits : FitsSigned w128 (get_or c.args.weights.now c.loop-y.y (pos 0)) = search rules in
    rw (to_z-of_z w128 (get_or c.args.weights.now c.loop-y.y (pos 0)) fits)
    (c.requires.weights.least c.loop-y.y (omega arith))

pub loop-y-preserved : goal.loop-y-preserved
loop-y-preserved g c =
    let own_fits : FitsSigned w128 c.multiplier_at-own.result = search rules in
    let first_fits : FitsSigned w128 c.ends_at-next.result.first = search rules in
    let last_fits : FitsSigned w128 c.ends_at-next.result.last = search rules in
    let width_fits : FitsSigned w128 c.width.result = search rules in
    let after_fits : FitsSigned w128 c.moved-after.result = search rules in
    let weight_fits : FitsSigned w128 (get_or c.args.weights.now c.loop-y.y (pos 0)) = search rules in
    let into_fits : FitsSigned w128 (get_or c.loop-y.into c.loop-y.y (pos 0)) = search rules in
    let after : c.moved-after.result ≡ cut_of (c.multiplier_at-own.result +ℤ floor_of (pos 1000 *ℤ
    (c.ends_at-next.result.first -ℤ to_z w128 c.loop-y.last-bits -ℤ c.width.result *ℤ c.multiplier_at-own.result))
    (get_or c.args.weights.now c.loop-y.y (pos 0))) = simp to_z-of_z at c.moved-after.ensures.value in
    let first : (other : YearPart) → c.ends_at-next.result.first ≡ ratio_floor c.args.scale
    (year_in 0 (get_or c.args.parts.now (c.loop-y.y + 1) other)) c.multiplier_at-own.result
    (first_of (drop (c.loop-y.y + 1) c.args.from.now)) 0 =
    λ other. simp to_z-of_z at (c.ends_at-next.ensures.first other) in
    let last : (other : YearPart) → c.ends_at-next.result.last ≡ ratio_floor c.args.scale
    (year_in 0 (get_or c.args.parts.now (c.loop-y.y + 1) other)) c.multiplier_at-own.result
    (first_of (drop (c.loop-y.y + 1) c.args.from.now)) 3 =
    λ other. simp to_z-of_z at (c.ends_at-next.ensures.last other) in
    let same = to_z-of_z w128 c.moved-after.result after_fits in
    let same_last = to_z-of_z w128 c.ends_at-next.result.last last_fits in
    let own : c.multiplier_at-own.result ≡ get_or c.args.from.now c.loop-y.y (pos 0) =
    c.multiplier_at-own.ensures.value ∙ first_of-drop c.args.from.now c.loop-y.y in
    record {
      done = rw same (swept c.args.scale c.args.miss.now c.args.parts.now c.args.weights.now c.args.from.now
          c.loop-y.into
          (sweep_of c.args.scale (years_apart 0 c.args.miss.now c.args.parts.now) c.args.from.now) c.loop-y.y
          c.multiplier_at-own.result c.width.result c.ends_at-next.result.first (to_z w128 c.loop-y.last-bits)
          c.moved-after.result (omega arith) (omega arith) (omega arith) (omega arith) c.requires.weights
          c.multiplier_at-own.ensures.value c.loop-y.invariant.ends first c.width.ensures.value after
          c.loop-y.invariant.done);
      ends = λ other. same_last ∙ next_ends c.args.scale (year_in 0 (get_or c.args.parts.now (c.loop-y.y + 1) other))
          c.args.from.now c.loop-y.y c.multiplier_at-own.result c.ends_at-next.result.last
          c.multiplier_at-own.ensures.value (last other);
      size = rw same_last c.ends_at-next.ensures.last_size;
      still = (
        λ t.
            let kept = c.kept-still.ensures.0 t in
            let equal : c.moved-after.result ≡ c.multiplier_at-own.result = simp to_z-of_z at kept.1 in
            rw same (agree_more c.args.from.now c.loop-y.into c.loop-y.y c.moved-after.result (omega arith)
            (omega arith)
            (c.loop-y.invariant.still.0 kept.0) (equal ∙ own)),
        λ e.
            let agreed = agreed_before c.args.from.now c.loop-y.into c.loop-y.y c.moved-after.result (omega arith)
            (omega arith) (rw same at e) in
            c.kept-still.ensures.1 (
              c.loop-y.invariant.still.1 agreed.0,
              rw (same, to_z-of_z w128 c.multiplier_at-own.result own_fits) (agreed.1 ∙ sym own),
            ),
      );
      back = λ t.
          let kept = c.kept-back.ensures.0 t in
          let equal : c.moved-after.result ≡ get_or c.loop-y.into c.loop-y.y (pos 0) = simp to_z-of_z at kept.1 in
          rw same (ap (λ u. set c.loop-y.into c.loop-y.y u) equal ∙ set-get_or c.loop-y.into c.loop-y.y (pos 0)
          ∙ c.loop-y.invariant.back kept.0);
      count = omega arith;
    }

pub returns-then-still-clause-value : goal.returns-then-still-clause-value
returns-then-still-clause-value g c =
    swept_all c.args.scale (get_or (pos 0 ∷ c.args.from.now) c.loop-y.y (pos 0))
    (years_apart 0 c.args.miss.now c.args.parts.now) c.args.from.now c.loop-y.into
    (sweep_of c.args.scale (years_apart 0 c.args.miss.now c.args.parts.now) c.args.from.now) c.loop-y.y (omega arith)
    (omega arith) c.loop-y.invariant.done

pub returns-else-still-clause-value : goal.returns-else-still-clause-value
returns-else-still-clause-value g c =
    swept_all c.args.scale (get_or (pos 0 ∷ c.args.from.now) c.loop-y.y (pos 0))
    (years_apart 0 c.args.miss.now c.args.parts.now) c.args.from.now c.loop-y.into
    (sweep_of c.args.scale (years_apart 0 c.args.miss.now c.args.parts.now) c.args.from.now) c.loop-y.y (omega arith)
    (omega arith) c.loop-y.invariant.done
