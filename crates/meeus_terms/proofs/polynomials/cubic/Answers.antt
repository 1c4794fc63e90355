use Rattle.std.proofs.Common.{rules}
use Rattle.meeus_terms.proofs.TopLemmas.{cubic_small}
use Rattle.meeus_terms.proofs.polynomials.cubic.Goals as goal

pub returns-clause-value : goal.returns-clause-value
returns-clause-value c = search rules

pub returns-clause-bound : goal.returns-clause-bound
returns-clause-bound c = rw (returns-clause-value c) (cubic_small c.args.a c.args.b c.args.c c.args.d c.args.k c.requires.minute c.requires.constant c.requires.others)
