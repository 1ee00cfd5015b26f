-- The places are those of the commas.
use Rattle.std.proofs.Common.{◌≡◌, ◌≤◌, ◌+◌, ◌++◌, ◌∙◌, ℕ, List, length, drop, sym, ap, subst, arith}
use Rattle.std.proofs.Common.{Result, Ok, Err, false}
use Rattle.std.specs.Result.{is_err, OnOk}
use Rattle.smallvec.specs.SmallVec.{SmallVec}
use Rattle.line_form.specs.Commas.{commas_from, cut_at, Rising}
use Rattle.line_form.proofs.CommaPlaces.{commas_step, commas_found, commas_done, cut_commas, all_rising}
use Rattle.line_form.proofs.reading.cut_at_commas.Goals as goal
use Rattle.line_form.proofs.reading.cut_at_commas.Goals.{else-b-eq44-via-then-b-eq44+else-is_err, else-b-eq44-via-else-b-eq44}

ok_holds : {T E : Type 0} (r : Result T E) (P : Type 0) → is_err r ≡ false → OnOk r P → P
ok_holds (Ok x) P h p = p
ok_holds (Err e) P h p = cc

pub loop-i-preserved : goal.loop-i-preserved
loop-i-preserved c =
    elim c.else-b-eq44.branch [
      | else-b-eq44-via-then-b-eq44+else-is_err w ↦
          let pushed = ok_holds w.push.result _ (sym w.is_err.ensures.value ∙ w.if-is_err.false) w.push.ensures.ok in
          ap (λ (v : SmallVec ℕ). v.items ++ commas_from (c.loop-i.i + 1) (drop (c.loop-i.i + 1) c.args.text.now)) w.commas-is
          ∙ ap (λ (es : List ℕ). es ++ commas_from (c.loop-i.i + 1) (drop (c.loop-i.i + 1) c.args.text.now)) pushed
          ∙ sym (commas_found c.loop-i.commas.items c.loop-i.i c.args.text.now c.loop-i-test.true w.if-b-eq44.true) ∙ c.loop-i.invariant
      | else-b-eq44-via-else-b-eq44 w ↦
          ap (λ (v : SmallVec ℕ). v.items ++ commas_from (c.loop-i.i + 1) (drop (c.loop-i.i + 1) c.args.text.now)) w.commas-is
          ∙ sym (commas_step c.loop-i.commas.items c.loop-i.i c.args.text.now c.loop-i-test.true w.if-b-eq44.false) ∙ c.loop-i.invariant
    ]

pub cut-requires : goal.cut-requires
cut-requires c =
    let done : length c.args.text.now ≤ c.loop-i.i = omega arith in
    let P : List ℕ → Type 0 = λ es. Rising 0 es (length c.args.text.now) in
    subst P (sym (commas_done c.loop-i.commas.items c.loop-i.i c.args.text.now c.loop-i.invariant done)) (all_rising c.args.text.now)

pub returns-clause-cut : goal.returns-clause-cut
returns-clause-cut c =
    let done : length c.args.text.now ≤ c.loop-i.i = omega arith in
    c.cut.ensures ∙ ap (λ es. cut_at 0 es c.args.text.now) (commas_done c.loop-i.commas.items c.loop-i.i c.args.text.now c.loop-i.invariant done) ∙ cut_commas c.args.text.now
