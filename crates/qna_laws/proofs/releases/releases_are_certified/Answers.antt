use Rattle.qna_laws.proofs.Certified.{releases_certified}
use Rattle.qna_laws.proofs.releases.releases_are_certified.Goals as goal

pub returns : goal.returns
returns c = releases_certified
