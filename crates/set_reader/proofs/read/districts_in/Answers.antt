use Rattle.std.proofs.Common.{◌≡◌, ◌∙◌, ap, sym}
use Rattle.json_value.specs.View.{entries_of}
use Rattle.order_reader.specs.Reading.{district_of}
use Rattle.ring_survey.specs.Vectors.{polygons_in}
use Rattle.set_reader.proofs.PartsLemmas.{are_parts}
use Rattle.set_reader.proofs.read.districts_in.Goals as goal
use Rattle.set_reader.specs.Features.{polygons_of}
use Rattle.set_reader.specs.Views.{features_in}

pub invariant_of-result : goal.invariant_of-result
invariant_of-result c =
    let all : polygons_in c.in_ok-polygons.polygons.items ≡ polygons_of (features_in c.in-Ok.features.items) =
    c.in_ok-polygons.ensures ∙ ap (λ features. polygons_of (features_in features)) c.as_slice.ensures.value in
    record {
      are_parts =
          are_parts (entries_of c.in-Some.table.now) (features_in c.in-Ok.features.items) c.in_ok-parts.parts c.in_ok-whole.whole
          c.in-Ok.ensures c.in_ok-parts.ensures (ap district_of (sym all) ∙ c.in_ok-whole.ensures);
    }
