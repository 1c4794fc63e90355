-- What a request asks for: an order and a border, without the proofs of their rules.
use Rattle.std.specs.Prelude.{List}
use Rattle.ring_survey.specs.Polygons.{Polygon}
use Rattle.order_rule.specs.Asked.{Asked, asked_of}
use Rattle.border_input.specs.declared.request.Request.{Request}

pub record Requested : Type 0 where
  pub order : Asked
  pub border : List Polygon

abbrev pub requested_of : Request → Requested
requested_of r = record { order = asked_of r.order; border = r.border }
