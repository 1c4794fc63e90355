-- Edges left out whose latitudes don't meet a box's, and numbered edges in order.
use Rattle.std.proofs.Common.{◌≡◌, inl, inr, ℕ, ◌+◌, ◌<◌, Bool, true, false, ◌&&◌, ◌||◌, cond, List, [], ◌∷◌, ◌++◌, map, Some, None, arith, refl, sym, ap, ◌∙◌}
use Rattle.std.proofs.Math.IntN.{ℤ, pos, ◌*ℤ◌}
use Rattle.std.specs.Prelude.{◌≤ℤ◌, ◌==◌, int_lt}
use Rattle.std.specs.Option.{option_or}
use Rattle.std.specs.List.{list_any, filter, flat_map}
use Rattle.std.proofs.lemmas.Int.{ints}
use Rattle.std.proofs.lemmas.Bool.Decides.{nat_tests}
use Rattle.std.proofs.lemmas.List.{map-append}
use Rattle.plane_edges.specs.Plane.{Place, Segment, Box, orientation, is_on, is_above, crosses, xor, IsOrdered}
use Rattle.ring_survey.specs.Polygons.{Polygon}
use Rattle.region.specs.Rings.{polygon_edges, is_within, is_in_district}
use Rattle.plane_edges.specs.EdgePoints.{edge_point, first_point, corner, misses_latitudes}
use Rattle.region.specs.Named.{named}
use Rattle.plane_edges.specs.Views.{segment_of}
use Rattle.region.specs.Strips.{BandView, IsBandOf, numbered, numbered_edges, reaches, edges_between, NamesWithoutBeyond, is_in_some}
use Rattle.plane_edges.proofs.Truth.{or_assoc, not_true, and_true, and_left, and_right, or_left, or_right, or_cases, is_lt, lt_true, lt_false}
use Rattle.region.proofs.Odd.{odd_by, xor_assoc, xor_false, is_odd-count_by}
use Rattle.plane_edges.proofs.OffEdge.{off_apart}
use Rattle.plane_edges.proofs.Parity.{corner_ordered}
use Rattle.plane_edges.proofs.Beyond.{beyond_latitudes, none_apart}
use Rattle.plane_edges.proofs.Touching.{no_cross_level}

-- ---- an edge beyond the box's latitudes

pub crosses_none : (box : Box) (e : Segment) → IsOrdered box → misses_latitudes box e ≡ true → crosses (corner box) e ≡ false
crosses_none box e ordered h =
    no_cross_level (is_above (corner box) e.ya) (is_above (corner box) e.yb) (int_lt (pos 0) (orientation e (corner box))) (int_lt (orientation e (corner box)) (pos 0))
    (elim (or_cases (int_lt e.ya box.y0 && int_lt e.yb box.y0) (int_lt box.y1 e.ya && int_lt box.y1 e.yb) h) [
      | inl a ↦
          let u = is_lt e.ya box.y0 (and_left (int_lt e.ya box.y0) (int_lt e.yb box.y0) a) in
          let v = is_lt e.yb box.y0 (and_right (int_lt e.ya box.y0) (int_lt e.yb box.y0) a) in
          lt_false box.y0 (e.ya *ℤ pos 1) (omega (arith, ints)) ∙ sym (lt_false box.y0 (e.yb *ℤ pos 1) (omega (arith, ints)))
      | inr a ↦
          let u = is_lt box.y1 e.ya (and_left (int_lt box.y1 e.ya) (int_lt box.y1 e.yb) a) in
          let v = is_lt box.y1 e.yb (and_right (int_lt box.y1 e.ya) (int_lt box.y1 e.yb) a) in
          lt_true box.y0 (e.ya *ℤ pos 1) (omega (arith, ints, ordered.y_ordered)) ∙ sym (lt_true box.y0 (e.yb *ℤ pos 1) (omega (arith, ints, ordered.y_ordered)))
    ])

-- ---- lists without such edges

first_point-filter : (box : Box) (keep : Segment → Bool) (edges : List Segment)
    → ((e : Segment) → keep e ≡ false → edge_point box e ≡ None) → first_point box (filter keep edges) ≡ first_point box edges
first_point-filter box keep [] none = refl
first_point-filter box keep (e ∷ rest) none = by (first_point-filter box keep rest none) (keep e) refl
  where
    by : first_point box (filter keep rest) ≡ first_point box rest
        → (b : Bool) → keep e ≡ b → first_point box (cond b (e ∷ filter keep rest) (filter keep rest)) ≡ first_point box (e ∷ rest)
    by h true k = ap (λ o. option_or (edge_point box e) o) h
    by h false k = h ∙ sym (ap (λ o. option_or o (first_point box rest)) (none e k))

list_any-filter : (p keep : Segment → Bool) (edges : List Segment)
    → ((e : Segment) → keep e ≡ false → p e ≡ false) → list_any p (filter keep edges) ≡ list_any p edges
list_any-filter p keep [] none = refl
list_any-filter p keep (e ∷ rest) none = by (list_any-filter p keep rest none) (keep e) refl
  where
    by : list_any p (filter keep rest) ≡ list_any p rest
        → (b : Bool) → keep e ≡ b → list_any p (cond b (e ∷ filter keep rest) (filter keep rest)) ≡ list_any p (e ∷ rest)
    by h true k = ap (λ o. p e || o) h
    by h false k = h ∙ sym (ap (λ o. o || list_any p rest) (none e k))

odd_by-filter : (p keep : Segment → Bool) (edges : List Segment)
    → ((e : Segment) → keep e ≡ false → p e ≡ false) → odd_by p (filter keep edges) ≡ odd_by p edges
odd_by-filter p keep [] none = refl
odd_by-filter p keep (e ∷ rest) none = by (odd_by-filter p keep rest none) (keep e) refl
  where
    by : odd_by p (filter keep rest) ≡ odd_by p rest
        → (b : Bool) → keep e ≡ b → odd_by p (cond b (e ∷ filter keep rest) (filter keep rest)) ≡ odd_by p (e ∷ rest)
    by h true k = ap (λ o. xor (p e) o) h
    by h false k = h ∙ sym (ap (λ o. xor o (odd_by p rest)) (none e k))

pub filter-append : {A : Type 0} (f : A → Bool) (xs ys : List A) → filter f (xs ++ ys) ≡ filter f xs ++ filter f ys
filter-append f [] ys = refl
filter-append {A} f (x ∷ xs) ys = by (f x) (filter-append f xs ys)
  where
    by : (b : Bool) → filter f (xs ++ ys) ≡ filter f xs ++ filter f ys
        → cond b (x ∷ filter f (xs ++ ys)) (filter f (xs ++ ys)) ≡ cond b (x ∷ filter f xs) (filter f xs) ++ filter f ys
    by true h = ap (λ zs. x ∷ zs) h
    by false h = h

joined_groups : (keep : Segment → Bool) (polygons : List Polygon)
    → flat_map (λ edges. edges) (map (λ rings. filter keep (polygon_edges rings)) polygons) ≡ filter keep (flat_map polygon_edges polygons)
joined_groups keep [] = refl
joined_groups keep (rings ∷ rest) =
    ap (λ es. filter keep (polygon_edges rings) ++ es) (joined_groups keep rest)
    ∙ sym (filter-append keep (polygon_edges rings) (flat_map polygon_edges rest))

within_is : (p : Place) (edges : List Segment) → is_within p edges ≡ (list_any (is_on p) edges || odd_by (crosses p) edges)
within_is p edges = ap (λ o. list_any (is_on p) edges || o) (is_odd-count_by (crosses p) edges)

within-filter : (p : Place) (keep : Segment → Bool) (edges : List Segment)
    → ((e : Segment) → keep e ≡ false → is_on p e ≡ false) → ((e : Segment) → keep e ≡ false → crosses p e ≡ false)
    → is_within p (filter keep edges) ≡ is_within p edges
within-filter p keep edges off none =
    within_is p (filter keep edges)
    ∙ ap (λ o. o || odd_by (crosses p) (filter keep edges)) (list_any-filter (is_on p) keep edges off)
    ∙ ap (λ o. list_any (is_on p) edges || o) (odd_by-filter (crosses p) keep edges none)
    ∙ sym (within_is p edges)

any_within-filter : (p : Place) (keep : Segment → Bool) (polygons : List Polygon)
    → ((e : Segment) → keep e ≡ false → is_on p e ≡ false) → ((e : Segment) → keep e ≡ false → crosses p e ≡ false)
    → list_any (is_within p) (map (λ rings. filter keep (polygon_edges rings)) polygons) ≡ is_in_district p polygons
any_within-filter p keep [] off none = refl
any_within-filter p keep (rings ∷ rest) off none =
    ap (λ o. o || list_any (is_within p) (map (λ rings. filter keep (polygon_edges rings)) rest)) (within-filter p keep (polygon_edges rings) off none)
    ∙ ap (λ o. is_within p (polygon_edges rings) || o) (any_within-filter p keep rest off none)

pub names_without_beyond : NamesWithoutBeyond
names_without_beyond box polygons keep ordered only =
    let none = λ (e : Segment) (k : keep e ≡ false). none_apart box e ordered (beyond_latitudes box e (only e k)) in
    let off = λ (e : Segment) (k : keep e ≡ false). off_apart box (corner box) e (corner_ordered box ordered) (beyond_latitudes box e (only e k)) in
    let past = λ (e : Segment) (k : keep e ≡ false). crosses_none box e ordered (only e k) in
    let first = ap (first_point box) (joined_groups keep polygons) ∙ first_point-filter box keep (flat_map polygon_edges polygons) none in
    let here = any_within-filter (corner box) keep polygons off past in
    ap (λ o. option_or o (cond (list_any (is_within (corner box)) (map (λ rings. filter keep (polygon_edges rings)) polygons)) (Some (corner box)) None)) first
    ∙ ap (λ b. option_or (first_point box (flat_map polygon_edges polygons)) (cond b (Some (corner box)) None)) here

-- ---- numbered edges

abbrev tagged : ℕ → List Segment → List (ℕ × Segment)
tagged n edges = map (λ e. (n, e)) edges

or_false : (a : Bool) → a ≡ (a || false)
or_false true = refl
or_false false = refl

same_number : (n : ℕ) → (n == n) ≡ true
same_number n = grind (arith, nat_tests)

other_number : (m n : ℕ) → n < m → (m == n) ≡ false
other_number m n h = grind (arith, nat_tests)

-- the edges of the polygon at hand
pub scan_group : (p : Place) (n : ℕ) (odd : Bool) (edges : List Segment) (rest : List (ℕ × Segment))
    → is_in_some p n odd (tagged n edges ++ rest)
    ≡ (list_any (is_on p) edges || is_in_some p n (xor odd (odd_by (crosses p) edges)) rest)
scan_group p n odd [] rest = ap (λ o. is_in_some p n o rest) (sym (xor_false odd))
scan_group p n odd (e ∷ edges) rest =
    ap (λ b. cond b (is_on p e || is_in_some p n (xor odd (crosses p e)) (tagged n edges ++ rest))
    (odd || (is_on p e || is_in_some p n (crosses p e) (tagged n edges ++ rest)))) (same_number n)
    ∙ ap (λ w. is_on p e || w) (scan_group p n (xor odd (crosses p e)) edges rest)
    ∙ sym (or_assoc (is_on p e) (list_any (is_on p) edges) (is_in_some p n (xor (xor odd (crosses p e)) (odd_by (crosses p) edges)) rest))
    ∙ ap (λ o. (is_on p e || list_any (is_on p) edges) || is_in_some p n o rest) (xor_assoc odd (crosses p e) (odd_by (crosses p) edges))

-- the edges of the next polygon, and then the rest
scan_next : (p : Place) (n m : ℕ) (odd : Bool) (edges : List Segment) (rest : List (ℕ × Segment)) (after : Bool) → n < m
    → ((k : ℕ) (o : Bool) → k < m + 1 → is_in_some p k o rest ≡ (o || after))
    → is_in_some p n odd (tagged m edges ++ rest) ≡ (odd || (is_within p edges || after))
scan_next p n m odd [] rest after h f = f n odd (omega arith)
scan_next p n m odd (e ∷ edges) rest after h f =
    ap (λ b. cond b (is_on p e || is_in_some p n (xor odd (crosses p e)) (tagged m edges ++ rest))
    (odd || (is_on p e || is_in_some p m (crosses p e) (tagged m edges ++ rest)))) (other_number m n h)
    ∙ ap (λ w. odd || (is_on p e || w))
    (scan_group p m (crosses p e) edges rest
    ∙ ap (λ w. list_any (is_on p) edges || w) (f m (xor (crosses p e) (odd_by (crosses p) edges)) (omega arith)))
    ∙ ap (λ w. odd || w)
    (sym (or_assoc (is_on p e) (list_any (is_on p) edges) (xor (crosses p e) (odd_by (crosses p) edges) || after))
    ∙ sym (or_assoc (is_on p e || list_any (is_on p) edges) (xor (crosses p e) (odd_by (crosses p) edges)) after)
    ∙ ap (λ w. w || after) (sym (within_is p (e ∷ edges))))

filter-tagged : (keep : Segment → Bool) (n : ℕ) (edges : List Segment)
    → filter (λ t. keep t.1) (tagged n edges) ≡ tagged n (filter keep edges)
filter-tagged keep n [] = refl
filter-tagged keep n (e ∷ rest) = by (keep e) (filter-tagged keep n rest)
  where
    by : (b : Bool) → filter (λ t. keep t.1) (tagged n rest) ≡ tagged n (filter keep rest)
        → cond b ((n, e) ∷ filter (λ t. keep t.1) (tagged n rest)) (filter (λ t. keep t.1) (tagged n rest)) ≡ tagged n (cond b (e ∷ filter keep rest) (filter keep rest))
    by true h = ap (λ zs. (n, e) ∷ zs) h
    by false h = h

pub parts : (keep : Segment → Bool) (n : ℕ) (rings : Polygon) (rest : List Polygon)
    → filter (λ t. keep t.1) (numbered_edges n (rings ∷ rest))
    ≡ tagged n (filter keep (polygon_edges rings)) ++ filter (λ t. keep t.1) (numbered_edges (n + 1) rest)
parts keep n rings rest =
    filter-append (λ t. keep t.1) (tagged n (polygon_edges rings)) (numbered_edges (n + 1) rest)
    ∙ ap (λ xs. xs ++ filter (λ t. keep t.1) (numbered_edges (n + 1) rest)) (filter-tagged keep n (polygon_edges rings))

abbrev groups : (Segment → Bool) → List Polygon → List (List Segment)
groups keep polygons = map (λ rings. filter keep (polygon_edges rings)) polygons

scan_rest : (p : Place) (keep : Segment → Bool) (n m : ℕ) (odd : Bool) (polygons : List Polygon) → n < m
    → is_in_some p n odd (filter (λ t. keep t.1) (numbered_edges m polygons)) ≡ (odd || list_any (is_within p) (groups keep polygons))
scan_rest p keep n m odd [] h = or_false odd
scan_rest p keep n m odd (rings ∷ rest) h =
    ap (is_in_some p n odd) (parts keep m rings rest)
    ∙ scan_next p n m odd (filter keep (polygon_edges rings)) (filter (λ t. keep t.1) (numbered_edges (m + 1) rest))
    (list_any (is_within p) (groups keep rest)) h
    (λ k o less. scan_rest p keep k (m + 1) o rest less)

scan_all : (p : Place) (keep : Segment → Bool) (polygons : List Polygon)
    → is_in_some p 0 false (filter (λ t. keep t.1) (numbered_edges 0 polygons)) ≡ list_any (is_within p) (groups keep polygons)
scan_all p keep [] = refl
scan_all p keep (rings ∷ rest) =
    let edges = filter keep (polygon_edges rings) in
    let after = list_any (is_within p) (groups keep rest) in
    ap (is_in_some p 0 false) (parts keep 0 rings rest)
    ∙ scan_group p 0 false edges (filter (λ t. keep t.1) (numbered_edges 1 rest))
    ∙ ap (λ w. list_any (is_on p) edges || w) (scan_rest p keep 0 1 (odd_by (crosses p) edges) rest (omega arith))
    ∙ sym (or_assoc (list_any (is_on p) edges) (odd_by (crosses p) edges) after)
    ∙ ap (λ w. w || after) (sym (within_is p edges))

seconds : (n : ℕ) (edges : List Segment) → map (λ t. t.1) (tagged n edges) ≡ edges
seconds n [] = refl
seconds n (e ∷ rest) = ap (λ zs. e ∷ zs) (seconds n rest)

all_seconds : (keep : Segment → Bool) (n : ℕ) (polygons : List Polygon)
    → map (λ t. t.1) (filter (λ t. keep t.1) (numbered_edges n polygons)) ≡ filter keep (flat_map polygon_edges polygons)
all_seconds keep n [] = refl
all_seconds keep n (rings ∷ rest) =
    ap (map (λ t. t.1)) (parts keep n rings rest)
    ∙ map-append (λ t. t.1) (tagged n (filter keep (polygon_edges rings))) (filter (λ t. keep t.1) (numbered_edges (n + 1) rest))
    ∙ ap (λ xs. xs ++ map (λ t. t.1) (filter (λ t. keep t.1) (numbered_edges (n + 1) rest))) (seconds n (filter keep (polygon_edges rings)))
    ∙ ap (λ ys. filter keep (polygon_edges rings) ++ ys) (all_seconds keep (n + 1) rest)
    ∙ sym (filter-append keep (polygon_edges rings) (flat_map polygon_edges rest))

-- an edge that doesn't reach a strip misses each box within the strip's latitudes
unreached : (low high : ℤ) (box : Box) (e : Segment) → low ≤ℤ box.y0 → box.y1 ≤ℤ high → reaches low high e ≡ false → misses_latitudes box e ≡ true
unreached low high box e g h k =
    elim (or_cases (int_lt e.ya low && int_lt e.yb low) (int_lt high e.ya && int_lt high e.yb) (not_true _ k)) [
      | inl a ↦
          let u = is_lt e.ya low (and_left (int_lt e.ya low) (int_lt e.yb low) a) in
          let v = is_lt e.yb low (and_right (int_lt e.ya low) (int_lt e.yb low) a) in
          or_left (int_lt e.ya box.y0 && int_lt e.yb box.y0) (int_lt box.y1 e.ya && int_lt box.y1 e.yb)
          (and_true (int_lt e.ya box.y0) (int_lt e.yb box.y0) (lt_true e.ya box.y0 (omega (arith, ints))) (lt_true e.yb box.y0 (omega (arith, ints))))
      | inr a ↦
          let u = is_lt high e.ya (and_left (int_lt high e.ya) (int_lt high e.yb) a) in
          let v = is_lt high e.yb (and_right (int_lt high e.ya) (int_lt high e.yb) a) in
          or_right (int_lt e.ya box.y0 && int_lt e.yb box.y0) (int_lt box.y1 e.ya && int_lt box.y1 e.yb)
          (and_true (int_lt box.y1 e.ya) (int_lt box.y1 e.yb) (lt_true box.y1 e.ya (omega (arith, ints))) (lt_true box.y1 e.yb (omega (arith, ints))))
    ]

-- the edges near a box's latitudes name what the district names
pub band_named : (box : Box) (polygons : List Polygon) (low high : ℤ) → IsOrdered box → low ≤ℤ box.y0 → box.y1 ≤ℤ high
    → option_or (first_point box (map (λ t. t.1) (edges_between low high polygons)))
    (cond (is_in_some (corner box) 0 false (edges_between low high polygons)) (Some (corner box)) None)
    ≡ named box polygons
band_named box polygons low high ordered g h =
    let keep = reaches low high in
    ap (λ o. option_or o (cond (is_in_some (corner box) 0 false (edges_between low high polygons)) (Some (corner box)) None))
    (ap (first_point box) (all_seconds keep 0 polygons ∙ sym (joined_groups keep polygons)))
    ∙ ap (λ b. option_or (first_point box (flat_map (λ edges. edges) (groups keep polygons))) (cond b (Some (corner box)) None))
    (scan_all (corner box) keep polygons)
    ∙ names_without_beyond box polygons keep ordered (λ e k. unreached low high box e g h k)

map-compose : {A B C : Type 0} (f : A → B) (g : B → C) (xs : List A) → map (λ x. g (f x)) xs ≡ map g (map f xs)
map-compose f g [] = refl
map-compose f g (x ∷ xs) = ap (λ ys. g (f x) ∷ ys) (map-compose f g xs)

-- the edges of a band, without their polygons
pub band_first : (polygons : List Polygon) (band : BandView) → IsBandOf polygons band
    → map segment_of band.edges ≡ map (λ t. t.1) (edges_between band.low band.high polygons)
band_first polygons band is =
    map-compose numbered (λ (t : ℕ × Segment). t.1) band.edges ∙ ap (map (λ (t : ℕ × Segment). t.1)) is.edges_are
