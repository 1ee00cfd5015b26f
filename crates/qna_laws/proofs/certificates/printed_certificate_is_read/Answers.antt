use Rattle.qna_laws.proofs.Printed.{printed_read}
use Rattle.qna_laws.proofs.certificates.printed_certificate_is_read.Goals as goal

pub returns : goal.returns
returns c = λ start front name certificate values k. printed_read c.written_is_read.ensures.year c.written_is_read.ensures.quarter start front name certificate values k
