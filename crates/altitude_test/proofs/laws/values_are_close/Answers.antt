use Rattle.altitude_test.proofs.Tolerance.{altitude_is_close, meridian_is_close}
use Rattle.altitude_test.proofs.laws.values_are_close.Goals as goal

pub returns-clause-altitude : goal.returns-clause-altitude
returns-clause-altitude c = altitude_is_close

pub returns-clause-meridian : goal.returns-clause-meridian
returns-clause-meridian c = meridian_is_close
