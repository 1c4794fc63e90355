-- The order of the examples: one place on the equator, on one day.
use Rattle.std.specs.Prelude.{ℕ, pos, List, [], ◌∷◌, None, codes}
use Rattle.method_table.specs.declared.method.Asr.TheVariants.{Standard}
use Rattle.method_table.specs.declared.method.Method.TheVariants.{Mwl}
use Rattle.order_rule.specs.Asked.{Asked}
use Rattle.ring_survey.specs.Polygons.{Position}
use Rattle.method_table.specs.declared.sun.SunChoice.TheVariants.{Usno}
use Rattle.year_table.specs.declared.zone.Zone.TheVariants.{Fixed}

unfoldable pub first_order : List ℕ
first_order =
    codes "{\"from\":\"2000-01-01\",\"days\":1,\"method\":\"mwl\",\"asr\":\"standard\",\"zone\":0,\"district\":{\"type\":\"Polygon\",\"coordinates\":[[[0,0],[0,0],[0,0],[0,0]]]}}"

abbrev pub first_place : Position
first_place = (pos 0, pos 0)

-- what it asks for
unfoldable pub first_asked : Asked
first_asked = record {
  from_day = pos 10957;
  days = 1;
  method = Mwl;
  asr = Standard;
  zone = Fixed (pos 0);
  offsets = pos 0 ∷ [];
  height = 0;
  late = [];
  sun = Usno;
  night = None;
  district = ((first_place ∷ first_place ∷ first_place ∷ first_place ∷ []) ∷ []) ∷ [];
}
