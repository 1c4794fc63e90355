use Rattle.ring_survey.specs.Vectors.{polygons_in}
use Rattle.ring_survey.proofs.Sound.{sound}
use Rattle.ring_survey.proofs.Reach.{all_short}
use Rattle.region.proofs.districts.District.new.Goals as goal

pub polygon_list-requires : goal.polygon_list-requires
polygon_list-requires c =
    let surveyed = rw c.as_slice.ensures.value at c.in-Ok.ensures in
    all_short (polygons_in c.args.polygons.items) (sound (polygons_in c.args.polygons.items) surveyed.sound)
