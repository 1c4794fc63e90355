-- What a set of districts asks for: a set without the proofs of its rule.
use Rattle.std.specs.Prelude.{List}
use Rattle.order_rule.specs.Asked as order
use Rattle.ring_survey.specs.Polygons.{Polygon}
use Rattle.set_reader.specs.declared.set.SetOrder.{SetOrder}

pub record SetAsked : Type 0 where
  -- the order of all polygons as one district
  pub whole : order.Asked
  -- the district of each Feature
  pub parts : List (List Polygon)

abbrev pub asked_of : SetOrder → SetAsked
asked_of s = record { whole = order.asked_of s.whole; parts = s.parts }
