-- Linear arithmetic on machine integers: the rules of `linear`, and those that strip casts and read ranges. Each product is an unknown.
use borrow.Author.Differences.{fits_out, fits_in, mag_is, back_is, small_is, read_fits}
use Rattle.ratio_arith.proofs.Linear.{linear}

-- the rules for `omega (arith, machine)`
pub ruleset machine = (linear, fits_out, fits_in, mag_is, back_is, small_is, read_fits)
