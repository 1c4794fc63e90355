use Rattle.altitude_test.proofs.ValueLaws.{grid_altitude_holds, grid_meridian_holds}
use Rattle.altitude_test.proofs.laws.grid_holds_values.Goals as goal

pub returns-clause-altitude : goal.returns-clause-altitude
returns-clause-altitude c = grid_altitude_holds

pub returns-clause-meridian : goal.returns-clause-meridian
returns-clause-meridian c = grid_meridian_holds
