-- What a trial comes to, and its report (this product's own).
use Rattle.std.specs.Prelude.{ℕ, ◌-◌, List, [], ◌∷◌, ◌++◌, codes, decimal, length, map, slice_index_or, sum, Option}
use Rattle.std.specs.Prelude.{Some, None}
use Rattle.price_base.specs.declared.Cell.{Cell}
use Rattle.price_base.specs.declared.Cell.TheVariants.{Missing}
use Rattle.series_tables.specs.Plan.{PlanShape}
use Rattle.series_tables.specs.declared.input.Input.{Input}
use Rattle.node_compile.specs.Release.{compilation}
use Rattle.node_compile.specs.Table.{Certificate, Table}
use Rattle.release_print.specs.Line.{line_text}
use Rattle.release_print.specs.Release.{cell_text}
use Rattle.command_words.specs.TrialWords.{TrialForm}
use Rattle.trial_gen.specs.TrialInputs.{inputs_of_trial}
use Rattle.trial_gen.specs.TrialPlan.{plan_of_trial}
use Rattle.qna_trial.specs.declared.figures.Figures.{Figures}

-- how many inputs there are, how many benchmarked years all leaves have together, and the level of the first item in
-- the last year
pub record TrialFigures : Type 0 where
  pub inputs : ℕ
  pub benchmarked : ℕ
  pub level : Cell

abbrev pub figures_view : Figures → TrialFigures
figures_view figures =
    record { inputs = figures.inputs; benchmarked = figures.benchmarked; level = figures.level }

-- the number of benchmarked years of a leaf with a certificate, and none of another item
abbrev pub years_in : Option Certificate → ℕ
years_in None = 0
years_in (Some certificate) = length certificate.benchmarks

-- that of all items
abbrev pub benchmarked_years : List Table → ℕ
benchmarked_years tables = sum (map (λ table. years_in table.leaf) tables)

-- the level of the first item in the last of so many years
abbrev pub last_level : ℕ → List Table → Cell
last_level years [] = Missing
last_level years (table ∷ tables) = slice_index_or table.chain.level (years - 1) Missing

-- what inputs come to over so many years, compiled from scratch
unfoldable pub figures_of : PlanShape → ℕ → List Input → TrialFigures
figures_of plan years inputs = record {
  inputs = length inputs;
  benchmarked = benchmarked_years (compilation plan inputs);
  level = last_level years (compilation plan inputs);
}

-- what a trial comes to: its inputs, by its plan
unfoldable pub figures_of_trial : TrialForm → TrialFigures
figures_of_trial said =
    let plan = plan_of_trial said.items said.years in
    figures_of plan said.years (inputs_of_trial plan said.seed said.years)

-- the line of the words, that of a word and a number, and that of the level
abbrev pub words_line : TrialForm → List ℕ
words_line said = line_text (codes "trial")
    (decimal said.seed ∷ decimal said.items ∷ decimal said.years ∷ decimal said.workers ∷ [])

abbrev pub number_line : List ℕ → ℕ → List ℕ
number_line word number = line_text word (decimal number ∷ [])

abbrev pub level_line : Cell → List ℕ
level_line level = line_text (codes "level") (cell_text level ∷ [])

-- the report of these figures
unfoldable pub report_text : TrialForm → TrialFigures → List ℕ
report_text said figures =
    words_line said ++ (number_line (codes "inputs") figures.inputs
    ++ (number_line (codes "benchmarked") figures.benchmarked
    ++ (level_line figures.level ++ line_text (codes "same") [])))

-- the report of a trial
unfoldable pub trial_text : TrialForm → List ℕ
trial_text said = report_text said (figures_of_trial said)
