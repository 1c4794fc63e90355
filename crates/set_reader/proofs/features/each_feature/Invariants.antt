use Rattle.std.proofs.Common.{◌≡◌, drop}
use Rattle.json_value.specs.View.{items_of}
use Rattle.ring_survey.proofs.EachLemmas.{with_front}
use Rattle.ring_survey.specs.Each.{each_of}
use Rattle.set_reader.proofs.features.each_feature.Given as goal
use Rattle.set_reader.specs.Features.{feature_of}
use Rattle.set_reader.specs.Views.{features_in}

abbrev pub invariant-loop-i : goal.invariant-loop-i
invariant-loop-i l = with_front (features_in l.all.items) (each_of feature_of (drop l.i (items_of l.features))) ≡ each_of feature_of (items_of l.features)
