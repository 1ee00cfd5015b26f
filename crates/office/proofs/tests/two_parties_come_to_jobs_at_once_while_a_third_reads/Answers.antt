use Rattle.std.proofs.Common.{◌∷◌, [], List, subst, sym}
use Rattle.std.specs.Prelude.{All}
use Rattle.series_tables.specs.Fits.{FitsPlan}
use Rattle.series_tables.specs.declared.input.Input.{Input}
use Rattle.office.proofs.Gathering.{knowing_ready}
use Rattle.office.proofs.tests.two_parties_come_to_jobs_at_once_while_a_third_reads.Goals as goal

pub send_all-desk-requires : goal.send_all-desk-requires
send_all-desk-requires g c =
    knowing_ready c.in_ok-office.office c.in_ok-plan.plan (17 ∷ 18 ∷ []) c.as_slice.result.now c.in_ok-office.desk
    (subst (λ (xs : List Input). All (FitsPlan c.in_ok-plan.plan) xs) (sym c.as_slice.ensures.value) c.in_ok-inputs.ensures) c.in_ok-office.ensures.desk
