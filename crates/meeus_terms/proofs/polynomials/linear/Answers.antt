use Rattle.std.proofs.Common.{rules}
use Rattle.meeus_terms.proofs.TopLemmas.{linear_small}
use Rattle.meeus_terms.proofs.polynomials.linear.Goals as goal

pub returns-clause-value : goal.returns-clause-value
returns-clause-value c = search rules

pub returns-clause-bound : goal.returns-clause-bound
returns-clause-bound c = rw (returns-clause-value c) (linear_small c.args.a c.args.b c.args.k c.requires.minute)
