-- The places, boxes and edges that the code's values stand for.
use Rattle.plane_edges.specs.declared.points.Point.{Point}
use Rattle.plane_edges.specs.declared.rects.Rect.{Rect}
use Rattle.plane_edges.specs.declared.edges.Edge.{Edge}
use Rattle.plane_edges.specs.Plane.{Place, Segment, Box}

abbrev pub place_of : Point → Place
place_of p = record { a = p.a; b = p.b; d = p.d }

abbrev pub box_of : Rect → Box
box_of r = record { x0 = r.x0; x1 = r.x1; y0 = r.y0; y1 = r.y1 }

abbrev pub segment_of : Edge → Segment
segment_of e = record { xa = e.xa; ya = e.ya; xb = e.xb; yb = e.yb }
