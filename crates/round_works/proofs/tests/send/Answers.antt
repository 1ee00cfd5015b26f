use Rattle.std.proofs.Common.{◌≡◌, ◌∙◌, ◌++◌, ◌∷◌, [], ap, sym, List, length, arith, length-append}
use Rattle.std.proofs.lemmas.List.Elements.{All-push}
use Rattle.series_tables.proofs.Kept.{last_value-more}
use Rattle.series_tables.specs.Cells.{after_input}
use Rattle.series_tables.specs.Fits.{FitsPlan}
use Rattle.series_tables.specs.declared.input.Input.{Input}
use Rattle.round_works.proofs.tests.send.Goals as goal

-- the inputs with one more
pub returns-clause-sent : goal.returns-clause-sent
returns-clause-sent c =
    let inputs : List Input = c.requires.sent.0 in
    let old = c.requires.sent.1 in (
      inputs ++ c.args.input ∷ [],
      record {
        whole = omega (arith, old.whole, length-append inputs (c.args.input ∷ []));
        fits = All-push (FitsPlan c.args.plan.now) inputs c.args.input old.fits c.requires.fits;
        values = λ kind leaf period.
            c.set.ensures.cells kind leaf period ∙ ap (after_input c.args.input kind leaf period) (old.values kind leaf period)
            ∙ sym (last_value-more inputs c.args.input kind leaf period);
      },
    )
