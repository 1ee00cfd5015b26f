use Rattle.qna_laws.proofs.Printed.{document_true}
use Rattle.qna_laws.proofs.certificates.printed_certificate_is_true.Goals as goal

pub returns : goal.returns
returns c = λ doc start front name certificate values e meets stated. document_true doc start front name certificate values e meets stated
