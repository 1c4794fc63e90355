use Rattle.altitude_test.proofs.ValueLaws.{altitude_narrows, meridian_narrows}
use Rattle.altitude_test.proofs.laws.values_narrow.Goals as goal

pub returns-clause-altitude : goal.returns-clause-altitude
returns-clause-altitude c = altitude_narrows

pub returns-clause-meridian : goal.returns-clause-meridian
returns-clause-meridian c = meridian_narrows
