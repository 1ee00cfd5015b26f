use Rattle.std.proofs.Common.{◌≡◌, subst}
use Rattle.round_works.specs.Jobs.{IsEndOf, ItemJob, job_in, job_made}
use Rattle.round_works.specs.declared.compiling.CompileEnd.{CompileEnd}
use Rattle.round_works.specs.declared.work.Job.{Job}
use Rattle.accounts_core.specs.State.{IsOutNow}
use Rattle.accounts_core.specs.Step.{HandsIn, PutsBack}
use Rattle.accounts_core.specs.declared.replies.Done.{Done}
use Rattle.office.specs.Holds.{OneHold}
use Rattle.office.proofs.Holding.{as_event, made_from}
use Rattle.office.proofs.office.Office.run.Goals as goal

pub returns-in-Kept-clause-ran : goal.returns-in-Kept-clause-ran
returns-in-Kept-clause-ran g c =
    let end = subst (λ (e : CompileEnd). IsEndOf c.args.job e) c.in-Compiled.is c.compile.ensures.end in
    let hold = subst (λ (d : Done). OneHold (λ found left. HandsIn found c.in-Compiled.made d left) c.args.pass c.hand_in-seen.result.0) c.in-Kept.is c.hand_in-seen.ensures.hold in
    as_event _ _ c.args.pass c.hand_in-seen.result.0 (λ found left kept. (c.in-Compiled.made, made_from c.args.job c.in-Compiled.made end.0 end.1 end.2 end.3, kept)) hold

pub returns-in_default-clause-ran : goal.returns-in_default-clause-ran
returns-in_default-clause-ran g c =
    let end = subst (λ (e : CompileEnd). IsEndOf c.args.job e) c.in-Compiled.is c.compile.ensures.end in
    let made : job_made c.in-Compiled.made ≡ job_in c.args.job = made_from c.args.job c.in-Compiled.made end.0 end.1 end.2 end.3 in
    let hold = subst (λ (d : Done). OneHold (λ found left. HandsIn found c.in-Compiled.made d left) c.args.pass c.hand_in-seen.result.0) c.in_default.is c.hand_in-seen.ensures.hold in
    as_event _ _ c.args.pass c.hand_in-seen.result.0 (λ found left not_out. (subst (λ (j : ItemJob). ¬ IsOutNow found j) made not_out.0, not_out.2)) hold

pub returns-in-Memory-clause-ran : goal.returns-in-Memory-clause-ran
returns-in-Memory-clause-ran g c =
    let same : c.in-Memory.job ≡ c.args.job = subst (λ (e : CompileEnd). IsEndOf c.args.job e) c.in-Memory.is c.compile.ensures.end in
    let hold = subst (λ (j : Job). OneHold (λ found left. PutsBack found j c.give_back-seen.result.1 left) c.args.pass c.give_back-seen.result.0) same c.give_back-seen.ensures.hold in
    as_event _ _ c.args.pass c.give_back-seen.result.0 (λ found left back. (c.give_back-seen.result.1, back)) hold
