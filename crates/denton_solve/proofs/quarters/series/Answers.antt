use Rattle.std.proofs.Common.{arith, ◌≡◌, ◌∙◌, ◌*◌, ◌^◌, ◌≤◌, ◌<◌, ℕ, ℤ, pos, List, length, map, sym, ap, subst, get_or, to_z, of_z, to_z-of_z}
use Rattle.std.specs.Prelude.{unsigned_abs, slice_index}
use Rattle.std.specs.Int.{w128}
use Rattle.std.proofs.lemmas.List.{length-map}
use Rattle.denton_parts.specs.Benchmarks.{AddsUpTo}
use Rattle.denton_parts.specs.Years.{indicators_of, year_in, years_in}
use Rattle.denton_parts.specs.declared.year.YearPart.{YearPart}
use Rattle.denton_parts.proofs.Places.{parts_in_range}
use Rattle.denton_parts.proofs.Reach.{value_small}
use Rattle.denton_solve.specs.Conditions.{IsScaled}
use Rattle.denton_solve.specs.Series.{series_of, year_series, AreShareOuts}
use Rattle.denton_solve.proofs.Scaled.{parts_scaled, parts_scaled_at, parts_scale_most, parts_scale_least}
use Rattle.denton_solve.proofs.Values.{written_none, written_more, written_all, series_wherever, series_shares, series_meets, series_within, indicators_most}
use Rattle.denton_solve.proofs.quarters.series.Goals as goal

pub loop-y-init : goal.loop-y-init
loop-y-init c = record {
  written = written_none c.args.scale (map (year_in 0) c.args.parts.now) c.args.u.now c.args.out.now;
  left = omega arith;
  room = omega arith;
}

pub quarters_of-requires-clause-scale : goal.quarters_of-requires-clause-scale
quarters_of-requires-clause-scale c = parts_scale_most c.args.scale c.args.parts.now c.requires.scale

pub quarters_of-requires-clause-scaled : goal.quarters_of-requires-clause-scaled
quarters_of-requires-clause-scaled c =
    let P : YearPart → Type 0 = λ part. IsScaled c.args.scale (year_in 0 part) in
    subst P (sym c.index-parts-y.is)
    (parts_scaled_at c.args.scale c.args.parts.now c.loop-y.y c.index-parts-y.result (omega arith) c.requires.scale)

pub loop-y-preserved : goal.loop-y-preserved
loop-y-preserved c =
    let right : to_z w128 (of_z w128 c.multiplier_at-right.result) ≡ c.multiplier_at-right.result =
    grind (arith, to_z-of_z) in
    record {
      written = rw right (written_more c.args.scale (to_z w128 c.loop-y.left-bits) c.multiplier_at-right.result
          c.args.parts.now c.args.u.now c.loop-y.out c.quarters_of.result c.write_year.new.out
          (series_of c.args.scale (map (year_in 0) c.args.parts.now) c.args.u.now) c.loop-y.y c.index-parts-y.result
          (omega arith) (omega arith) c.index-parts-y.is
          (c.quarters_of.ensures
          ∙ ap (λ (n : ℤ). year_series c.args.scale (year_in 0 c.index-parts-y.result) (to_z w128 c.loop-y.left-bits) n)
          right)
          c.multiplier_at-right.ensures.value c.write_year.ensures.value c.loop-y.invariant.written);
      left = rw right c.multiplier_at-right.ensures.size;
      room = omega arith;
    }

-- the values are the series
done : (c : goal.After-loop-y) →
    c.loop-y.out ≡ series_of c.args.scale (map (year_in 0) c.args.parts.now) c.args.u.now
done c =
    let count = length-map c.args.parts.now (year_in 0) in
    written_all c.args.scale _ (map (year_in 0) c.args.parts.now) c.args.u.now c.loop-y.out
    (series_of c.args.scale (map (year_in 0) c.args.parts.now) c.args.u.now) c.loop-y.y (omega arith) (omega arith)
    c.loop-y.invariant.written

-- wherever the years stand
found : (c : goal.After-loop-y) (places : List ℕ) → length places ≡ length c.args.parts.now →
    c.loop-y.out ≡ series_of c.args.scale (years_in places c.args.parts.now) c.args.u.now
found c places e = done c ∙ sym (series_wherever c.args.scale places c.args.parts.now c.args.u.now e)

pub returns-clause-value : goal.returns-clause-value
returns-clause-value c = λ places e. found c places e

pub returns-clause-shares : goal.returns-clause-shares
returns-clause-shares c = λ places e.
    subst (λ (xs : List ℤ). AreShareOuts c.args.scale (pos 0) (years_in places c.args.parts.now) c.args.u.now xs)
    (sym (found c places e))
    (series_shares c.args.scale (years_in places c.args.parts.now) c.args.u.now
    (parts_in_range places c.args.parts.now))

pub returns-clause-meets : goal.returns-clause-meets
returns-clause-meets c = λ y other inside.
    subst (λ (xs : List ℤ). AddsUpTo (get_or c.args.parts.now y other).bench xs y) (sym (done c))
    (series_meets c.args.scale c.args.parts.now c.args.u.now y other inside)

-- their reach
within : (c : goal.After-loop-y) → (t : ℕ) → t < length c.loop-y.out →
    10 ^ c.args.scale * unsigned_abs (get_or c.loop-y.out t (pos 0))
    ≤ 8 * 10 ^ 15 * slice_index (indicators_of c.args.parts.now) t
within c t inside =
    let P : List ℤ → Type 0 = λ xs. t < length xs →
    10 ^ c.args.scale * unsigned_abs (get_or xs t (pos 0))
    ≤ 8 * 10 ^ 15 * slice_index (indicators_of c.args.parts.now) t in
    subst P (sym (done c))
    (series_within c.args.scale c.args.parts.now c.args.u.now
    (parts_scale_most c.args.scale c.args.parts.now c.requires.scale)
    (parts_scaled c.args.scale c.args.parts.now c.requires.scale) c.requires.multipliers t) inside

pub returns-clause-sizes : goal.returns-clause-sizes
returns-clause-sizes c t inside =
    value_small c.args.scale (slice_index (indicators_of c.args.parts.now) t) (get_or c.loop-y.out t (pos 0))
    (parts_scale_least c.args.scale c.args.parts.now c.requires.scale) (indicators_most c.args.parts.now t)
    (within c t inside)

pub returns-clause-reach : goal.returns-clause-reach
returns-clause-reach c t inside = let far = within c t inside in omega arith
