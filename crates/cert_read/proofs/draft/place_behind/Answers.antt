use Rattle.std.proofs.Common.{◌≡◌, ◌-◌, ◌∙◌, sym, add-one, length, Some}
use Rattle.std.specs.Prelude.{slice_get}
use Rattle.cert_read.proofs.Places.{behind_last}
use Rattle.cert_read.proofs.draft.place_behind.Goals as goal

pub returns-in-Some-clause-value : goal.returns-in-Some-clause-value
returns-in-Some-clause-value c =
    let last : slice_get c.args.bench.now (length c.args.bench.now - 1) ≡ Some c.in-Some.last.now =
    sym c.in-Some.ensures.value in
    add-one c.in-Some.last.now.place ∙ sym (behind_last (λ b. b.place) 0 c.args.bench.now c.in-Some.last.now last)
