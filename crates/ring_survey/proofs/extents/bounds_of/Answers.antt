use Rattle.std.proofs.Common.{ap, ◌∙◌}
use Rattle.ring_survey.specs.Bounds.{or_zero}
use Rattle.ring_survey.specs.Extent.{positions_of}
use Rattle.ring_survey.specs.Vectors.{polygons_in}
use Rattle.ring_survey.proofs.Reach.{or_zero_is}
use Rattle.ring_survey.proofs.extents.bounds_of.Goals as goal

pub returns : goal.returns
returns c =
    c.or_zero.ensures ∙ ap or_zero c.all_bounds.ensures ∙ or_zero_is (positions_of (polygons_in c.args.polygons.now))
