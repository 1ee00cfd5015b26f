use Rattle.qna_laws.proofs.Certified.{releases_certified}
use Rattle.qna_live.proofs.Beginnings.{journals_certified}
use Rattle.qna_live.proofs.laws.journals_are_certified.Goals as goal

pub returns : goal.returns
returns c =
    journals_certified c.written_journals_are_read.ensures c.spelled_plans_are_plans.ensures releases_certified
