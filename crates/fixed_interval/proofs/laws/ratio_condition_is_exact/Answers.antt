-- Some corner is the product of the reaches, and each lies between the least and the greatest.
use Rattle.fixed_interval.proofs.Widths.{ratio_in_range, ratio_stays_in_range}
use Rattle.fixed_interval.proofs.laws.ratio_condition_is_exact.Goals as goal

pub returns : goal.returns
returns c = λ a r m n p. (ratio_in_range a r m n p, ratio_stays_in_range a r m n p)
