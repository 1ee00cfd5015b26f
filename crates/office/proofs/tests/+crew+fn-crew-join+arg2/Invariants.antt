use Rattle.std.proofs.Common.{◌+◌, ◌*◌, vec_len}
use Rattle.office.proofs.tests.+crew+fn-crew-join+arg2.Given as goal

abbrev pub decreases-crew : goal.decreases-crew
decreases-crew g l = 2 * vec_len l.others + 1

abbrev pub decreases-join+arg2 : goal.decreases-join+arg2
decreases-join+arg2 g l = 2 * vec_len l.others + 2
