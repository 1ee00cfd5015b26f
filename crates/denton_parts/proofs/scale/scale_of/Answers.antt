use Rattle.std.proofs.Common.{arith, ◌≡◌, ◌≤◌, ℕ, List, length, true, false, sym, ◌∙◌, subst}
use Rattle.std.specs.List.{list_all}
use Rattle.denton_parts.specs.Scale.{fits_scale, greatest_up_to, scale_of_years}
use Rattle.denton_parts.specs.Years.{years_in}
use Rattle.denton_parts.specs.declared.year.YearPart.{YearPart}
use Rattle.denton_parts.proofs.Scales.{greatest_up_to-true, greatest_up_to-false, greatest_bounds, parts_fit, parts_fit_one, fit_wherever, scale_wherever}
use Rattle.denton_parts.proofs.scale.scale_of.Goals as goal

pub loop-scale-preserved : goal.loop-scale-preserved
loop-scale-preserved c =
    let missed : parts_fit c.args.parts.now c.loop-scale.scale ≡ false = grind arith in
    record {
      most = omega arith;
      value = sym (greatest_up_to-false c.loop-scale.scale (parts_fit c.args.parts.now) (omega arith) missed)
          ∙ c.loop-scale.invariant.value;
    }

-- a scale that fits and is the greatest up to itself is the scale of the years, wherever they stand
value : (scale : ℕ) (parts : List YearPart) → parts_fit parts scale ≡ true →
    greatest_up_to scale (parts_fit parts) ≡ greatest_up_to 15 (parts_fit parts) →
    (places : List ℕ) → length places ≡ length parts → scale ≡ scale_of_years (years_in places parts)
value scale parts fits found places e =
    sym (greatest_up_to-true scale (parts_fit parts) fits) ∙ found ∙ sym (scale_wherever places parts e)

-- they fit it wherever they stand
fitting : (scale : ℕ) (parts : List YearPart) → parts_fit parts scale ≡ true →
    (places : List ℕ) → length places ≡ length parts → list_all (fits_scale scale) (years_in places parts) ≡ true
fitting scale parts fits places e = fit_wherever scale places parts e ∙ fits

-- no greater one fits
bounds : (scale : ℕ) (parts : List YearPart) → parts_fit parts scale ≡ true →
    greatest_up_to scale (parts_fit parts) ≡ greatest_up_to 15 (parts_fit parts) →
    (k : ℕ) → k ≤ 15 → (places : List ℕ) → length places ≡ length parts →
    list_all (fits_scale k) (years_in places parts) ≡ true → k ≤ scale
bounds scale parts fits found k within places e other =
    rw (value scale parts fits found places e) (greatest_bounds 15
    (λ j. list_all (fits_scale j) (years_in places parts)) k within other)

found_fits : (c : goal.Else-not-all_fit) → parts_fit c.args.parts.now c.loop-scale.scale ≡ true
found_fits c = grind arith

pub returns-else-not-all_fit-clause-value : goal.returns-else-not-all_fit-clause-value
returns-else-not-all_fit-clause-value c = value c.loop-scale.scale c.args.parts.now
    (found_fits c) c.loop-scale.invariant.value

pub returns-else-not-all_fit-clause-fits : goal.returns-else-not-all_fit-clause-fits
returns-else-not-all_fit-clause-fits c = fitting c.loop-scale.scale c.args.parts.now (found_fits c)

pub returns-else-not-all_fit-clause-greatest : goal.returns-else-not-all_fit-clause-greatest
returns-else-not-all_fit-clause-greatest c = bounds c.loop-scale.scale c.args.parts.now
    (found_fits c) c.loop-scale.invariant.value

-- where none above 0 fits, 0 does
least : (c : goal.After-loop-scale) → parts_fit c.args.parts.now c.loop-scale.scale ≡ true
least c =
    let none : c.loop-scale.scale ≡ 0 = omega arith in
    let P : ℕ → Type 0 = λ n. parts_fit c.args.parts.now n ≡ true in
    subst P (sym none) (parts_fit_one c.args.parts.now)

pub returns-after-loop-scale-clause-value : goal.returns-after-loop-scale-clause-value
returns-after-loop-scale-clause-value c = value c.loop-scale.scale c.args.parts.now
    (least c) c.loop-scale.invariant.value

pub returns-after-loop-scale-clause-fits : goal.returns-after-loop-scale-clause-fits
returns-after-loop-scale-clause-fits c = fitting c.loop-scale.scale c.args.parts.now (least c)

pub returns-after-loop-scale-clause-greatest : goal.returns-after-loop-scale-clause-greatest
returns-after-loop-scale-clause-greatest c = bounds c.loop-scale.scale c.args.parts.now
    (least c) c.loop-scale.invariant.value
