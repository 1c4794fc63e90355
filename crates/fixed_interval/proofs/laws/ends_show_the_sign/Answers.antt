-- A fraction over 2^56 has the sign of its top.
use Rattle.fixed_interval.proofs.Inclusion.{above_of_ends, ends_above, below_of_ends, ends_below}
use Rattle.fixed_interval.proofs.laws.ends_show_the_sign.Goals as goal

pub returns : goal.returns
returns c = record {
  above = λ a. (ends_above a, above_of_ends a);
  below = λ a. (ends_below a, below_of_ends a);
}
