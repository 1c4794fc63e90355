-- The floor is the greatest number below, and the ceiling the least above.
use Rattle.fixed_interval.proofs.EnclosureLaws.{LiesIn_refl}
use Rattle.fixed_interval.proofs.Inclusion.{rounded_out_holds, rounded_out_least}
use Rattle.fixed_interval.proofs.laws.rounding_gives_the_least.Goals as goal

pub returns : goal.returns
returns c = record {
  holds = λ x. rounded_out_holds x x (LiesIn_refl x);
  least = rounded_out_least;
}
