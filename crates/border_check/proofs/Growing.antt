-- A part grows edge by edge, and a share polygon by polygon.
use Rattle.std.proofs.Common.{◌≡◌, Bool, true, false, ◌&&◌, ◌||◌, cond, List, [], ◌∷◌, ◌++◌, append_assoc, append-nil, refl, sym, ap, ◌∙◌}
use Rattle.std.specs.Prelude.{count_by}
use Rattle.std.specs.List.{filter, list_any}
use Rattle.std.proofs.lemmas.List.Folds.{list_any-append}
use Rattle.std.proofs.lemmas.List.Elements.{filter-append}
use Rattle.plane_edges.specs.Plane.{Box, Segment, xor}
use Rattle.region.specs.Rings.{is_odd, edge_between, edges_from, ring_edges, polygon_edges}
use Rattle.ring_survey.specs.Polygons.{Position, Ring, Polygon}
use Rattle.ring_survey.specs.Extent.{is_far, positions_of}
use Rattle.plane_edges.proofs.Truth.{neither}
use Rattle.ring_survey.specs.Faults.{is_empty}
use Rattle.region.proofs.Odd.{odd_by, odd_by-append, is_odd-count_by, xor_assoc, xor_false}
use Rattle.border_check.specs.Borders.{positions_in}
use Rattle.border_check.specs.Shares.{PartView, ShareView, grown, with_part, with_last, part_of, share_of}

pub grown-append : (keep turn : Segment → Bool) (part : PartView) (xs ys : List Segment)
    → grown keep turn (grown keep turn part xs) ys ≡ grown keep turn part (xs ++ ys)
grown-append keep turn part xs ys =
    ap (λ (es : List Segment). record { edges = es; odd = xor (xor part.odd (is_odd (count_by turn xs))) (is_odd (count_by turn ys)) }) edges
    ∙ ap (λ (b : Bool). record { edges = part.edges ++ filter keep (xs ++ ys); odd = b }) odd
  where
    edges : (part.edges ++ filter keep xs) ++ filter keep ys ≡ part.edges ++ filter keep (xs ++ ys)
    edges = append_assoc part.edges (filter keep xs) (filter keep ys) ∙ ap (λ (es : List Segment). part.edges ++ es) (sym (filter-append keep xs ys))

    odd : xor (xor part.odd (is_odd (count_by turn xs))) (is_odd (count_by turn ys)) ≡ xor part.odd (is_odd (count_by turn (xs ++ ys)))
    odd =
        xor_assoc part.odd (is_odd (count_by turn xs)) (is_odd (count_by turn ys))
        ∙ ap (λ b. xor part.odd b)
        (ap (λ b. xor b (is_odd (count_by turn ys))) (is_odd-count_by turn xs)
        ∙ ap (λ b. xor (odd_by turn xs) b) (is_odd-count_by turn ys)
        ∙ sym (odd_by-append turn xs ys)
        ∙ sym (is_odd-count_by turn (xs ++ ys)))

pub grown-none : (keep turn : Segment → Bool) (part : PartView) → grown keep turn part [] ≡ part
grown-none keep turn part =
    ap (λ (es : List Segment). record { edges = es; odd = xor part.odd false }) (append-nil part.edges)
    ∙ ap (λ (b : Bool). record { edges = part.edges; odd = b }) (xor_false part.odd)

-- two lists of polygons, one behind the other
abbrev pub joined : ShareView → ShareView → ShareView
joined s t = record { parts = s.parts ++ t.parts; inside = s.inside || t.inside }

or_turned : (a b c : Bool) → ((a || b) || c) ≡ (b || (a || c))
or_turned true true c = refl
or_turned true false c = refl
or_turned false true c = refl
or_turned false false c = refl

pub joined-with : (s t : ShareView) (part : PartView) → joined (with_last s part) t ≡ joined s (with_part part t)
joined-with s t part =
    ap (λ (ps : List PartView). record { parts = ps; inside = ((is_empty part.edges && part.odd) || s.inside) || t.inside }) (parts (is_empty part.edges))
    ∙ ap (λ (b : Bool). record { parts = s.parts ++ cond (is_empty part.edges) t.parts (part ∷ t.parts); inside = b })
    (or_turned (is_empty part.edges && part.odd) s.inside t.inside)
  where
    parts : (b : Bool) → cond b s.parts (s.parts ++ (part ∷ [])) ++ t.parts ≡ s.parts ++ cond b t.parts (part ∷ t.parts)
    parts true = refl
    parts false = append_assoc s.parts (part ∷ []) t.parts

-- ---- steps of loops

pub grow_more : (keep turn : Segment → Bool) (now next all : PartView) (xs ys : List Segment) → next ≡ grown keep turn now xs
    → grown keep turn now (xs ++ ys) ≡ all → grown keep turn next ys ≡ all
grow_more keep turn now next all xs ys h k =
    ap (λ (part : PartView). grown keep turn part ys) h ∙ grown-append keep turn now xs ys ∙ k

-- one edge
pub grow_one : (keep turn : Segment → Bool) (before after : List Segment) (odd next : Bool) (e : Segment)
    → after ≡ before ++ filter keep (e ∷ []) → next ≡ xor odd (turn e)
    → record { edges = after; odd = next } ≡ grown keep turn (record { edges = before; odd = odd }) (e ∷ [])
grow_one keep turn before after odd next e h k =
    ap (λ (es : List Segment). record { edges = es; odd = next }) h
    ∙ ap (λ (b : Bool). record { edges = before ++ filter keep (e ∷ []); odd = b })
    (k ∙ ap (λ b. xor odd b) (sym (is_odd-count_by turn (e ∷ []) ∙ xor_false (turn e))))

pub join_more : (now next : ShareView) (part : PartView) (more all : ShareView) → next ≡ with_last now part
    → joined now (with_part part more) ≡ all → joined next more ≡ all
join_more now next part more all h k =
    ap (λ (share : ShareView). joined share more) h ∙ joined-with now more part ∙ k

pub joined-none : (s : ShareView) (inside : Bool) → joined s (record { parts = []; inside = inside }) ≡ record { parts = s.parts; inside = s.inside || inside }
joined-none s inside = ap (λ (ps : List PartView). record { parts = ps; inside = s.inside || inside }) (append-nil s.parts)

or_false : (a : Bool) → (a || false) ≡ a
or_false true = refl
or_false false = refl

pub joined-empty : (s : ShareView) → joined s (record { parts = []; inside = false }) ≡ s
joined-empty s = joined-none s false ∙ ap (λ (b : Bool). record { parts = s.parts; inside = b }) (or_false s.inside)

-- a ring's edges taken so far, with those left, are all
pub record TakenAlong (keep turn : Segment → Bool) (before : PartView) (first : Position) (all : Ring) (now : PartView) (previous : Position) (left : Ring) : Type 0 where
  pub start_near : is_far previous ≡ false
  pub near : list_any is_far left ≡ false
  pub taken : grown keep turn now (edges_from previous left) ≡ grown keep turn before (edges_from first all)

pub taken_more : (keep turn : Segment → Bool) (before : PartView) (first : Position) (all : Ring) (now next : PartView) (p q : Position) (rest : Ring)
    → TakenAlong keep turn before first all now p (q ∷ rest) → next ≡ grown keep turn now (edge_between p q ∷ [])
    → TakenAlong keep turn before first all next q rest
taken_more keep turn before first all now next p q rest t h = record {
  start_near = (neither (is_far q) (list_any is_far rest) t.near).0;
  near = (neither (is_far q) (list_any is_far rest) t.near).1;
  taken = grow_more keep turn now next (grown keep turn before (edges_from first all)) (edge_between p q ∷ []) (edges_from q rest) h t.taken;
}

-- a polygon's rings taken so far, with those left, are all
pub record RingsTaken (keep turn : Segment → Bool) (all : Polygon) (now : PartView) (left : Polygon) : Type 0 where
  pub near : list_any is_far (positions_in left) ≡ false
  pub taken : grown keep turn now (polygon_edges left) ≡ grown keep turn (record { edges = []; odd = false }) (polygon_edges all)

near_parts : (xs ys : List Position) → list_any is_far (xs ++ ys) ≡ false → (list_any is_far xs ≡ false) × (list_any is_far ys ≡ false)
near_parts xs ys h = neither (list_any is_far xs) (list_any is_far ys) (sym (list_any-append is_far xs ys) ∙ h)

pub ring_near : (keep turn : Segment → Bool) (all : Polygon) (now : PartView) (ring : Ring) (left : Polygon)
    → RingsTaken keep turn all now (ring ∷ left) → list_any is_far ring ≡ false
ring_near keep turn all now ring left t = (near_parts ring (positions_in left) t.near).0

pub ring_taken : (keep turn : Segment → Bool) (all : Polygon) (now next : PartView) (ring : Ring) (left : Polygon)
    → RingsTaken keep turn all now (ring ∷ left) → next ≡ grown keep turn now (ring_edges ring) → RingsTaken keep turn all next left
ring_taken keep turn all now next ring left t h = record {
  near = (near_parts ring (positions_in left) t.near).1;
  taken = grow_more keep turn now next (grown keep turn (record { edges = []; odd = false }) (polygon_edges all)) (ring_edges ring) (polygon_edges left) h t.taken;
}

-- the shares of the polygons so far, with those left, are all
pub record PolygonsShared (box : Box) (all : List Polygon) (now : ShareView) (left : List Polygon) : Type 0 where
  pub near : list_any is_far (positions_of left) ≡ false
  pub shared : joined now (share_of box left) ≡ share_of box all

pub polygon_near : (box : Box) (all : List Polygon) (now : ShareView) (rings : Polygon) (left : List Polygon)
    → PolygonsShared box all now (rings ∷ left) → list_any is_far (positions_in rings) ≡ false
polygon_near box all now rings left t = (near_parts (positions_in rings) (positions_of left) t.near).0

pub polygon_shared : (box : Box) (all : List Polygon) (now next : ShareView) (part : PartView) (rings : Polygon) (left : List Polygon)
    → PolygonsShared box all now (rings ∷ left) → part ≡ part_of box (polygon_edges rings) → next ≡ with_last now part
    → PolygonsShared box all next left
polygon_shared box all now next part rings left t p h = record {
  near = (near_parts (positions_in rings) (positions_of left) t.near).1;
  shared = join_more now next (part_of box (polygon_edges rings)) (share_of box left) (share_of box all)
      (h ∙ ap (λ (x : PartView). with_last now x) p) t.shared;
}
