use Rattle.std.proofs.Common.{◌≡◌, ◌∙◌, ap, ℕ, zero, suc, true, false, List, [], ◌∷◌, map}
use Rattle.std.specs.Prelude.{slice_get}
use Rattle.std.specs.declared.alloc.Global.{Global}
use Rattle.std.specs.declared.sync.Arc.{Arc}
use Rattle.series_tables.specs.Plan.{PlanShape, is_leaf}
use Rattle.series_tables.specs.declared.input.Input.{Input}
use Rattle.node_compile.specs.Table.{Table}
use Rattle.node_compile.specs.declared.table.NodeTable.{NodeTable}
use Rattle.dirty_plan.specs.Round.{has_flag}
use Rattle.vintage_board.specs.Board.{BoardOf}
use Rattle.round_works.specs.Tables.{shared_table}
use Rattle.round_works.proofs.tests.opened.Goals as goal

-- the items with a flag are the two leaves
flags_name_leaves : (plan : PlanShape) → is_leaf plan 1 ≡ true → is_leaf plan 2 ≡ true → (item : ℕ) → has_flag (false ∷ true ∷ true ∷ []) item ≡ true → is_leaf plan item ≡ true
flags_name_leaves plan food services zero named = absurd (let never : false ≡ true = named in cc)
flags_name_leaves plan food services (suc zero) named = food
flags_name_leaves plan food services (suc (suc zero)) named = services
flags_name_leaves plan food services (suc (suc (suc item))) named = absurd (let never : false ≡ true = named in cc)

pub open-requires-clause-leaves : goal.open-requires-clause-leaves
open-requires-clause-leaves g c = flags_name_leaves c.args.plan.now c.requires.food c.requires.services

-- the board shows what the inputs make of every item
pub returns : goal.returns
returns g c =
    let inputs : List Input = c.send_year-count-2.ensures.sent.0 in
    let sent = c.send_year-count-2.ensures.sent.1 in (
      inputs,
      c.in_ok-open.ensures.works inputs (record {
        whole = sent.whole;
        fits = sent.fits;
        values = sent.values;
        clean = λ item inside none.
            ap (λ (tables : List Table). slice_get tables item)
            (ap (λ (board : BoardOf (Arc NodeTable Global)). map shared_table board.shown) c.in_ok-board.ensures ∙ c.in_ok-release.ensures.compiled inputs sent.values);
      }),
    )
