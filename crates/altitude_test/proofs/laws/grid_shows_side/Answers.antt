use Rattle.altitude_test.proofs.Verdicts.{grid_shows_altitude, grid_shows_meridian}
use Rattle.altitude_test.proofs.laws.grid_shows_side.Goals as goal

pub returns-clause-altitude : goal.returns-clause-altitude
returns-clause-altitude c = grid_shows_altitude

pub returns-clause-meridian : goal.returns-clause-meridian
returns-clause-meridian c = grid_shows_meridian
