-- The figures and the report of a trial, put together.
use Rattle.std.proofs.Common.{◌≡◌, ◌∙◌, ℕ, List, [], ◌++◌, length, codes, ap, append_assoc}
use Rattle.std.proofs.lemmas.List.FromFn.{length-map-range_with_len}
use Rattle.price_base.specs.declared.Cell.{Cell}
use Rattle.series_tables.specs.Plan.{PlanShape}
use Rattle.series_tables.specs.declared.input.Input.{Input}
use Rattle.node_compile.specs.Release.{compilation}
use Rattle.release_print.specs.Line.{line_text}
use Rattle.command_words.specs.TrialWords.{TrialForm}
use Rattle.trial_gen.specs.TrialInputs.{inputs_of_trial}
use Rattle.trial_gen.specs.TrialPlan.{plan_of_trial, trial_name}
use Rattle.qna_trial.specs.Trial.{TrialFigures, benchmarked_years, figures_of, figures_of_trial, last_level, level_line, number_line, report_text, trial_text, words_line}

-- the figures of a trial's plan and inputs are those of the trial
pub figures_are : (said : TrialForm) (plan : PlanShape) (given : List Input) (inputs benchmarked : ℕ) (level : Cell) → plan ≡ plan_of_trial said.items said.years
    → given ≡ inputs_of_trial plan said.seed said.years → inputs ≡ length given → benchmarked ≡ benchmarked_years (compilation plan given) → level ≡ last_level said.years (compilation plan given)
    → record { inputs = inputs; benchmarked = benchmarked; level = level } ≡ figures_of_trial said
unfolding figures_of figures_of_trial
figures_are said plan given inputs benchmarked level planned drawn counted summed leveled =
    let here : record { inputs = inputs; benchmarked = benchmarked; level = level } ≡ figures_of plan said.years given =
    cc in
    here ∙ ap (figures_of plan said.years) drawn ∙ ap (λ (p : PlanShape). figures_of p said.years (inputs_of_trial p said.seed said.years)) planned

-- five lines, one behind another, are the report
pub lines_are : (said : TrialForm) (figures : TrialFigures) (none first second third fourth fifth : List ℕ) → none ≡ [] → first ≡ none ++ words_line said
    → second ≡ first ++ number_line (codes "inputs") figures.inputs → third ≡ second ++ number_line (codes "benchmarked") figures.benchmarked
    → fourth ≡ third ++ level_line figures.level → fifth ≡ fourth ++ line_text (codes "same") [] → fifth ≡ report_text said figures
unfolding report_text
lines_are said figures none first second third fourth fifth empty one two three four five =
    rw (five, four, three, two, one, empty) (simp append_assoc)

-- the report of a trial's figures is the trial's
pub report_is : (said : TrialForm) (figures : TrialFigures) (text : List ℕ) → figures ≡ figures_of_trial said → text ≡ report_text said figures → text ≡ trial_text said
unfolding trial_text
report_is said figures text are is = is ∙ ap (report_text said) are

-- a trial's plan has as many items as the words say
pub items_are : (plan : PlanShape) (items years : ℕ) → plan ≡ plan_of_trial items years → length plan.names ≡ items
unfolding plan_of_trial
items_are plan items years is = ap (λ (p : PlanShape). length p.names) is ∙ length-map-range_with_len trial_name 0 items
