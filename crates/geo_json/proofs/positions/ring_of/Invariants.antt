use Rattle.std.proofs.Common.{◌≡◌, drop}
use Rattle.json_value.specs.View.{items_of}
use Rattle.geo_json.specs.Geometry.{position_in}
use Rattle.geo_json.proofs.positions.ring_of.Given as goal
use Rattle.ring_survey.specs.Each.{each_of}
use Rattle.ring_survey.proofs.EachLemmas.{with_front}

abbrev pub invariant-loop-i : goal.invariant-loop-i
invariant-loop-i l = with_front l.ring.items (each_of (position_in l.notation) (drop l.i (items_of l.positions))) ≡ each_of (position_in l.notation) (items_of l.positions)
