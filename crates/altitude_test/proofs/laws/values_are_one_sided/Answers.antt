use Rattle.altitude_test.proofs.Verdicts.{altitude_is_one_sided, meridian_is_one_sided}
use Rattle.altitude_test.proofs.laws.values_are_one_sided.Goals as goal

pub returns-clause-altitude : goal.returns-clause-altitude
returns-clause-altitude c = altitude_is_one_sided

pub returns-clause-meridian : goal.returns-clause-meridian
returns-clause-meridian c = meridian_is_one_sided
