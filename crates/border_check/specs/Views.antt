-- The boxes and the edges that the code's values stand for.
use Rattle.plane_edges.specs.Plane.{Segment, Box}
use Rattle.border_check.specs.declared.edges.Edge.{Edge}
use Rattle.border_check.specs.declared.extents.Extent.{Extent}

abbrev pub box_of : Extent → Box
box_of r = record { x0 = r.x0; x1 = r.x1; y0 = r.y0; y1 = r.y1 }

abbrev pub segment_of : Edge → Segment
segment_of e = record { xa = e.xa; ya = e.ya; xb = e.xb; yb = e.yb }
