use Rattle.altitude_test.proofs.Tolerance.{open_altitude_is_near, open_meridian_is_near}
use Rattle.altitude_test.proofs.laws.open_values_are_near.Goals as goal

pub returns-clause-altitude : goal.returns-clause-altitude
returns-clause-altitude c = open_altitude_is_near

pub returns-clause-meridian : goal.returns-clause-meridian
returns-clause-meridian c = open_meridian_is_near
