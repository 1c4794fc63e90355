use Rattle.std.proofs.Common.{rules, arith}
use Rattle.fixed_interval.proofs.Sizes.{abs_product}
use Rattle.meeus_terms.proofs.polynomials.times.Goals as goal

pub returns-clause-value : goal.returns-clause-value
returns-clause-value c = search rules

pub returns-clause-bound : goal.returns-clause-bound
returns-clause-bound c = rw (returns-clause-value c) (abs_product c.args.k c.args.x 53_200_000 _ c.requires.minute (omega arith))
