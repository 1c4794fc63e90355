-- Loops that keep the edges of a strip: those kept so far, with those left, are all that are to be kept.
use Rattle.std.proofs.Common.{◌≡◌, ◌⊎◌, inl, inr, ℕ, ◌+◌, ◌*◌, ◌^◌, ◌<◌, ◌≤◌, true, cond, List, [], ◌∷◌, ◌++◌, map, length, get_or, append_assoc, append-nil, length-append, arith, refl, sym, ap, ◌∙◌}
use Rattle.std.proofs.Math.IntN.{ℤ, pos, ◌+ℤ◌}
use Rattle.std.specs.List.{filter}
use Rattle.std.proofs.lemmas.List.{map-append, get_or_append_left, get_or_at}
use Rattle.std.proofs.lemmas.Bool.{cases_lt}
use Rattle.plane_edges.specs.declared.edges.Edge.{Edge}
use Rattle.plane_edges.specs.Plane.{Segment}
use Rattle.ring_survey.specs.Polygons.{Position, Ring, Polygon}
use Rattle.region.specs.Rings.{edge_between, edges_from, polygon_edges}
use Rattle.ring_survey.specs.Extent.{is_compact_from}
use Rattle.plane_edges.specs.Views.{segment_of}
use Rattle.region.specs.Strips.{StripView, IsStripOf, AreStripsFrom, numbered_edges, reaches, edges_between, numbered, kept, kept_from}
use Rattle.region.proofs.Along.{short_rest}
use Rattle.region.proofs.Cut.{filter-append, parts}

pub record KeptAlong (n : ℕ) (low high : ℤ) (before : List Edge) (first : Position) (all : Ring) (now : List Edge) (previous : Position) (left : Ring) : Type 0 where
  pub short : is_compact_from previous left ≡ true
  pub kept_is : map numbered now ++ kept n low high (edges_from previous left) ≡ map numbered before ++ kept n low high (edges_from first all)

pub kept-append : (n : ℕ) (low high : ℤ) (xs ys : List Segment) → kept n low high (xs ++ ys) ≡ kept n low high xs ++ kept n low high ys
kept-append n low high xs ys =
    ap (map (λ e. (n, e))) (filter-append (reaches low high) xs ys)
    ∙ map-append (λ e. (n, e)) (filter (reaches low high) xs) (filter (reaches low high) ys)

-- one more part is kept
pub keep_more : (n : ℕ) (low high : ℤ) (now next : List Edge) (xs ys : List Segment) (all : List (ℕ × Segment))
    → map numbered next ≡ map numbered now ++ kept n low high xs
    → map numbered now ++ kept n low high (xs ++ ys) ≡ all
    → map numbered next ++ kept n low high ys ≡ all
keep_more n low high now next xs ys all h k =
    ap (λ zs. zs ++ kept n low high ys) h
    ∙ append_assoc (map numbered now) (kept n low high xs) (kept n low high ys)
    ∙ ap (λ zs. map numbered now ++ zs) (sym (kept-append n low high xs ys))
    ∙ k

pub keep_polygon : (n : ℕ) (low high : ℤ) (now next : List Edge) (rings : Polygon) (rest : List Polygon) (all : List (ℕ × Segment))
    → map numbered next ≡ map numbered now ++ kept n low high (polygon_edges rings)
    → map numbered now ++ kept_from n low high (rings ∷ rest) ≡ all
    → map numbered next ++ kept_from (n + 1) low high rest ≡ all
keep_polygon n low high now next rings rest all h k =
    ap (λ zs. zs ++ kept_from (n + 1) low high rest) h
    ∙ append_assoc (map numbered now) (kept n low high (polygon_edges rings)) (kept_from (n + 1) low high rest)
    ∙ k

pub kept_from_is : (n : ℕ) (low high : ℤ) (polygons : List Polygon)
    → kept_from n low high polygons ≡ filter (λ t. reaches low high t.1) (numbered_edges n polygons)
kept_from_is n low high [] = refl
kept_from_is n low high (rings ∷ rest) =
    ap (λ zs. kept n low high (polygon_edges rings) ++ zs) (kept_from_is (n + 1) low high rest)
    ∙ sym (parts (reaches low high) n rings rest)

-- an edge that reaches the strip
pub keep_one : (before : List Edge) (e : Edge) (low high : ℤ) → reaches low high (segment_of e) ≡ true
    → map numbered (before ++ e ∷ []) ≡ map numbered before ++ kept e.polygon low high (segment_of e ∷ [])
keep_one before e low high h =
    map-append numbered before (e ∷ [])
    ∙ ap (λ b. map numbered before ++ map (λ s. (e.polygon, s)) (cond b (segment_of e ∷ []) [])) (sym h)

-- an edge that is kept, by the places that it joins
pub keep_joined : (m n : ℕ) (low high : ℤ) (now next : List Edge) (s t : Segment)
    → map numbered next ≡ map numbered now ++ kept m low high (s ∷ []) → s ≡ t → m ≡ n
    → map numbered next ≡ map numbered now ++ kept n low high (t ∷ [])
keep_joined m n low high now next s t h e f =
    h ∙ ap (λ (u : Segment). map numbered now ++ kept m low high (u ∷ [])) e
    ∙ ap (λ (k : ℕ). map numbered now ++ kept k low high (t ∷ [])) f

-- one more edge of a ring
pub kept_along_more : (n : ℕ) (low high : ℤ) (before : List Edge) (first : Position) (all : Ring) (now next : List Edge) (p q : Position) (rest : Ring)
    → KeptAlong n low high before first all now p (q ∷ rest)
    → map numbered next ≡ map numbered now ++ kept n low high (edge_between p q ∷ [])
    → KeptAlong n low high before first all next q rest
kept_along_more n low high before first all now next p q rest k h = record {
  short = short_rest p q rest k.short;
  kept_is = keep_more n low high now next (edge_between p q ∷ []) (edges_from q rest) _ h k.kept_is;
}

-- all edges that are kept
pub edges_done : (polygons : List Polygon) (low high : ℤ) (edges : List Edge) (n : ℕ)
    → map numbered edges ++ kept_from n low high [] ≡ kept_from 0 low high polygons
    → map numbered edges ≡ edges_between low high polygons
edges_done polygons low high edges n q = sym (append-nil (map numbered edges)) ∙ q ∙ kept_from_is 0 low high polygons

-- one more strip
pub strips_more : (polygons : List Polygon) (south : ℤ) (list : List StripView) (strip : StripView) (i : ℕ)
    → (length list ≡ i) × AreStripsFrom polygons south list
    → strip.low ≡ south +ℤ pos (i * 2 ^ 23) → IsStripOf polygons strip
    → (length (list ++ strip ∷ []) ≡ i + 1) × AreStripsFrom polygons south (list ++ strip ∷ [])
strips_more polygons south list strip i h low is = (
  omega (arith, h.0, length-append list (strip ∷ [])),
  record {
    all = λ k d less. at_index k d less (cases_lt k (length list));
  },
)
  where
    at : StripView → ℕ → Type 0
    at s k = (s.low ≡ south +ℤ pos (k * 2 ^ 23)) × IsStripOf polygons s

    at_index : (k : ℕ) (d : StripView) → k < length (list ++ strip ∷ []) → (k < length list) ⊎ (length list ≤ k)
        → at (get_or (list ++ strip ∷ []) k d) k
    at_index k d less (inl here) = rw (get_or_append_left list (strip ∷ []) d k here) (h.1.all k d here)
    at_index k d less (inr last) =
        let e : length list ≡ k = omega (arith, length-append list (strip ∷ [])) in
        let f : i ≡ k = omega (arith, h.0) in
        rw (get_or_at list strip [] d k e) (low ∙ ap (λ (m : ℕ). south +ℤ pos (m * 2 ^ 23)) f, is)
