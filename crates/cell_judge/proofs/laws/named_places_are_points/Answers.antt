use Rattle.cell_judge.proofs.SkyLaws.{named_places_are_points}
use Rattle.cell_judge.proofs.laws.named_places_are_points.Goals as goal

pub returns : goal.returns
returns c = named_places_are_points
