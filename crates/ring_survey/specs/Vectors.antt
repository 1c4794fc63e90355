-- The lists that nested vectors of positions hold.
use Rattle.std.specs.Prelude.{ℤ, List, map}
use Rattle.std.specs.declared.vec.Vec.{Vec}
use Rattle.ring_survey.specs.Polygons.{Ring, Polygon}

abbrev pub rings_in : {Z : Type 0} → List (Vec (ℤ × ℤ) Z) → List Ring
rings_in rings = map (λ ring. ring.items) rings

abbrev pub polygons_in : {Z : Type 0} → List (Vec (Vec (ℤ × ℤ) Z) Z) → List Polygon
polygons_in polygons = map (λ rings. rings_in rings.items) polygons
