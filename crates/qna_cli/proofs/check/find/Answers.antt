use Rattle.std.proofs.lemmas.Result.{err_from_is_err_and}
use Rattle.std.proofs.Common.{◌≡◌}
use Rattle.dual_cert.specs.declared.verdict.Verdict.TheVariants.{Yes}
use Rattle.cert_read.specs.Reading.{content_of}
use Rattle.cert_read.proofs.Verdicts.{verdict_is, found_is, refused_is, certifies}
use Rattle.qna_cli.proofs.check.find.Goals as goal

pub returns-in_err-doc-clause-found : goal.returns-in_err-doc-clause-found
returns-in_err-doc-clause-found c =
    let p = err_from_is_err_and c.from_residual.result c.from_residual.ensures.1 in
    rw (p.1, p.2) (refused_is c.args.text.now c.in_err-doc.field-0.0 c.in_err-doc.ensures.exact)

pub returns-clause-found : goal.returns-clause-found
returns-clause-found c =
    found_is c.args.text.now (content_of c.in_ok-doc.doc) c.in_ok-check.field-0 c.in_ok-doc.ensures.exact
    (verdict_is c.in_ok-doc.doc c.in_ok-check.field-0 c.in_ok-check.ensures.sum c.in_ok-check.ensures.gap c.in_ok-check.ensures.yes)

pub returns-clause-certified : goal.returns-clause-certified
returns-clause-certified c =
    λ e. let good : c.in_ok-check.field-0 ≡ Yes = cc in
    certifies c.args.text.now c.in_ok-doc.doc c.in_ok-doc.ensures.exact (c.in_ok-check.ensures.yes.0 good).0 (c.in_ok-check.ensures.within good)
