use Rattle.std.proofs.Common.{arith, ◌≡◌, ◌+◌, ◌^◌, ℤ, pos, length, sym, subst}
use Rattle.std.proofs.lemmas.Grind.{common_steps}
use Rattle.denton_parts.specs.Ratios.{IsWithinGap}
use Rattle.denton_parts.specs.Years.{years_in}
use Rattle.denton_parts.proofs.Places.{years_at-length, years_of_run}
use Rattle.dual_cert.specs.Sums.{IsFirstMissed}
use Rattle.dual_cert.specs.Verdict.{MeetsAll, gap_of_document, years_of_document}
use Rattle.dual_cert.proofs.Totals.{missed_refutes}
use Rattle.dual_cert.proofs.Whole.{within_gap}
use Rattle.dual_cert.proofs.verdict.check.Goals as goal
use Rattle.dual_cert.proofs.verdict.check.Goals.{In-Some, In_default, In_ok-parts}

-- the year that was found is the first whose quarters don't add up
first : (c : In-Some) → IsFirstMissed (years_of_document c.args.doc.now) c.args.doc.now.x.items c.in-Some.year
first c =
    rw (c.deref.ensures.value, c.deref-2.ensures.value, c.deref-3.ensures.value) at
    (c.in-Some.ensures c.args.doc.now.ind.items)

-- where none was found, the benchmarks are met
met : (c : In_default) → MeetsAll c.args.doc.now
met c =
    rw (c.deref.ensures.value, c.deref-2.ensures.value, c.deref-3.ensures.value) at
    (c.in_default.ensures c.args.doc.now.ind.items)

pub returns-in-Some-clause-gap : goal.returns-in-Some-clause-gap
returns-in-Some-clause-gap c = λ said found. (
  λ e. cc,
  λ h. absurd (missed_refutes (years_of_document c.args.doc.now) c.args.doc.now.x.items c.in-Some.year
      (first (goal.at.returns-in-Some-clause-gap c).In-Some) h.0),
)

pub returns-in-Some-clause-yes : goal.returns-in-Some-clause-yes
returns-in-Some-clause-yes c = (
  λ e. cc,
  λ h. absurd (missed_refutes (years_of_document c.args.doc.now) c.args.doc.now.x.items c.in-Some.year
      (first (goal.at.returns-in-Some-clause-yes c).In-Some) h.0),
)

-- the figures are those of the document's years
shown : (c : In_ok-parts) →
    years_in c.args.doc.now.years.items c.in_ok-parts.parts.items ≡ years_of_document c.args.doc.now
shown c =
    rw (c.deref-4.ensures.value, c.deref-5.ensures.value, c.deref-6.ensures.value) at c.in_ok-parts.ensures.years

pub gap_of-found-requires-clause-years : goal.gap_of-found-requires-clause-years
gap_of-found-requires-clause-years c =
    let kept = c.args.doc.now.kept in
    rw (
      c.deref-10.ensures.value,
      c.deref-8.ensures.value,
      c.deref-7.ensures.value,
      shown (goal.at.gap_of-found-requires-clause-years c).In_ok-parts,
    )
    (years_of_run c.args.doc.now.ind.items c.args.doc.now.years.items c.args.doc.now.bench.items kept.placed
    kept.whole_years)

pub returns-then-found-doc-clause-sum : goal.returns-then-found-doc-clause-sum
returns-then-found-doc-clause-sum c = λ year. (
  λ e. cc,
  λ h. absurd (missed_refutes (years_of_document c.args.doc.now) c.args.doc.now.x.items h.0 h.2
      (met (goal.at.returns-then-found-doc-clause-sum c).In_default)),
)

pub returns-then-found-doc-clause-within : goal.returns-then-found-doc-clause-within
returns-then-found-doc-clause-within c =
    let years = shown (goal.at.returns-then-found-doc-clause-within c).In_ok-parts in
    let same : c.args.doc.now.gap ≡ gap_of_document c.args.doc.now = grind (arith, common_steps) in
    let kept = c.args.doc.now.kept in
    let count = years_at-length c.args.doc.now.ind.items c.args.doc.now.years.items c.args.doc.now.bench.items
    kept.placed in
    let joints : length (years_of_document c.args.doc.now) ≡ length c.args.doc.now.u.items + 1 =
    let each = kept.joints in omega arith in
    λ e. let P : ℤ → Type 0 = λ g. IsWithinGap c.args.doc.now.ind.items (years_of_document c.args.doc.now)
    c.args.doc.now.x.items g (pos (10 ^ c.args.doc.now.scale)) in
    subst P (sym same) (within_gap c.args.doc.now.ind.items (years_of_document c.args.doc.now)
    c.args.doc.now.x.items c.args.doc.now.u.items (pos (10 ^ c.args.doc.now.scale))
    (λ t inside. (kept.quarters.each_indicator t inside).0)
    (years_of_run c.args.doc.now.ind.items c.args.doc.now.years.items c.args.doc.now.bench.items kept.placed
    kept.whole_years)
    kept.quarters.same_length joints (met (goal.at.returns-then-found-doc-clause-within c).In_default))

pub returns-clause-sum : goal.returns-clause-sum
returns-clause-sum c = λ year. (
  λ e. cc,
  λ h. absurd (missed_refutes (years_of_document c.args.doc.now) c.args.doc.now.x.items h.0 h.2
      (met (goal.at.returns-clause-sum c).In_default)),
)
