-- Edges in blocks: what a block's box says of its edges, and what is asked of blocks is asked of their edges.
use Rattle.std.proofs.Common.{◌≡◌, inl, inr, ℕ, suc, ◌+◌, ◌<◌, ◌≤◌, take, drop, length, map, cond, Bool, true, false, ◌&&◌, ◌||◌, List, [], ◌∷◌, ◌++◌, append_assoc, Some, None, arith, refl, sym, ap, subst, ◌∙◌}
use Rattle.std.proofs.Math.IntN.{ℤ}
use Rattle.std.specs.Prelude.{◌≤ℤ◌, ◌<ℤ◌, ◌==◌, int_lt}
use Rattle.std.specs.List.{All, list_any}
use Rattle.std.specs.Option.{option_or}
use Rattle.std.proofs.lemmas.Int.{ints}
use Rattle.std.proofs.lemmas.Bool.Decides.{nat_tests}
use Rattle.std.proofs.lemmas.List.{map-append, take-append-drop, length-take-le}
use Rattle.std.proofs.lemmas.List.Elements.{All-cons, All-head, All-tail, All-weaker}
use Rattle.region.specs.declared.blocks.Block.{Block}
use Rattle.plane_edges.specs.declared.edges.Edge.{Edge}
use Rattle.plane_edges.specs.Plane.{Place, Segment, Box, is_on, crosses, xor, IsOrdered}
use Rattle.ring_survey.specs.Polygons.{Polygon}
use Rattle.plane_edges.specs.EdgePoints.{edge_point, first_point, corner, misses_latitudes, misses_longitudes}
use Rattle.region.specs.Named.{named}
use Rattle.region.specs.Strips.{BandView, IsBandOf, numbered, is_in_some, edges_between}
use Rattle.plane_edges.specs.Views.{segment_of}
use Rattle.region.specs.Blocks.{IsHeld, AreBlocksOf, cut, first_in_blocks, is_in_some_block}
use Rattle.plane_edges.proofs.Truth.{or_assoc, and_true, or_left, or_right, or_cases, is_lt, lt_true}
use Rattle.region.proofs.Odd.{odd_by, is_odd-count_by}
use Rattle.plane_edges.proofs.OffEdge.{off_apart}
use Rattle.plane_edges.proofs.Parity.{corner_ordered}
use Rattle.region.proofs.Wholly.{first_point-append}
use Rattle.plane_edges.proofs.Beyond.{beyond_latitudes, names_none_beyond}
use Rattle.region.proofs.Cut.{crosses_none, scan_group, band_first, band_named}

-- a block whose box is at least as wide
pub record IsWider (wide narrow : Block) : Type 0 where
  pub polygon : wide.polygon ≡ narrow.polygon
  pub west : wide.west ≤ℤ narrow.west
  pub east : narrow.east ≤ℤ wide.east
  pub south : wide.south ≤ℤ narrow.south
  pub north : narrow.north ≤ℤ wide.north

through : (a b c : ℤ) → a ≤ℤ b → b ≤ℤ c → a ≤ℤ c
through a b c h k = omega (arith, ints)

pub held_wider : (wide narrow : Block) (e : Edge) → IsWider wide narrow → IsHeld narrow e → IsHeld wide e
held_wider wide narrow e w h = record {
  polygon_is = h.polygon_is ∙ sym w.polygon;
  xa_east = through wide.west narrow.west e.xa w.west h.xa_east;
  xb_east = through wide.west narrow.west e.xb w.west h.xb_east;
  xa_west = through e.xa narrow.east wide.east h.xa_west w.east;
  xb_west = through e.xb narrow.east wide.east h.xb_west w.east;
  ya_north = through wide.south narrow.south e.ya w.south h.ya_north;
  yb_north = through wide.south narrow.south e.yb w.south h.yb_north;
  ya_south = through e.ya narrow.north wide.north h.ya_south w.north;
  yb_south = through e.yb narrow.north wide.north h.yb_south w.north;
}

-- the first edge of a block, and those after it so far
pub held_so_far : (block : Block) (first : Edge) (rest : List Edge) (i : ℕ)
    → (block.count ≡ i + 1) × IsHeld block first × All (IsHeld block) (take i rest)
    → All (IsHeld block) (take block.count (first ∷ rest))
held_so_far block first rest i h =
    let n : block.count ≡ suc i = h.0 ∙ omega arith in
    subst (λ m. All (IsHeld block) (take m (first ∷ rest))) (sym n)
    (All-cons (IsHeld block) first (take i rest) h.1 h.2)

-- ---- a block whose box misses a box

both_under : (end z u v : ℤ) → end <ℤ z → u ≤ℤ end → v ≤ℤ end → (int_lt u z && int_lt v z) ≡ true
both_under end z u v h p q = and_true _ _ (lt_true u z (omega (arith, ints))) (lt_true v z (omega (arith, ints)))

both_over : (end z u v : ℤ) → z <ℤ end → end ≤ℤ u → end ≤ℤ v → (int_lt z u && int_lt z v) ≡ true
both_over end z u v h p q = and_true _ _ (lt_true z u (omega (arith, ints))) (lt_true z v (omega (arith, ints)))

pub under_or_over : (b : Block) (box : Box) (e : Edge) → (int_lt b.north box.y0 || int_lt box.y1 b.south) ≡ true
    → IsHeld b e → misses_latitudes box (segment_of e) ≡ true
under_or_over b box e miss h =
    elim (or_cases (int_lt b.north box.y0) (int_lt box.y1 b.south) miss) [
      | inl a ↦ or_left _ _ (both_under b.north box.y0 e.ya e.yb (is_lt b.north box.y0 a) h.ya_south h.yb_south)
      | inr a ↦ or_right _ _ (both_over b.south box.y1 e.ya e.yb (is_lt box.y1 b.south a) h.ya_north h.yb_north)
    ]

pub left_or_right : (b : Block) (box : Box) (e : Edge) → (int_lt b.east box.x0 || int_lt box.x1 b.west) ≡ true
    → IsHeld b e → misses_longitudes box (segment_of e) ≡ true
left_or_right b box e miss h =
    elim (or_cases (int_lt b.east box.x0) (int_lt box.x1 b.west) miss) [
      | inl a ↦ or_left _ _ (both_under b.east box.x0 e.xa e.xb (is_lt b.east box.x0 a) h.xa_west h.xb_west)
      | inr a ↦ or_right _ _ (both_over b.west box.x1 e.xa e.xb (is_lt box.x1 b.west a) h.xa_east h.xb_east)
    ]

-- edges of which each names no point
pub none_first : (box : Box) (edges : List Edge) → All (λ e. edge_point box (segment_of e) ≡ None) edges
    → first_point box (map segment_of edges) ≡ None
none_first box [] none = refl
none_first box (e ∷ rest) none =
    ap (λ o. option_or o (first_point box (map segment_of rest))) (All-head (λ e. edge_point box (segment_of e) ≡ None) e rest none)
    ∙ none_first box rest (All-tail (λ e. edge_point box (segment_of e) ≡ None) e rest none)

pub all_beyond : (b : Block) (box : Box) (edges : List Edge) → (int_lt b.north box.y0 || int_lt box.y1 b.south) ≡ true
    → All (IsHeld b) edges → All (λ e. misses_latitudes box (segment_of e) ≡ true) edges
all_beyond b box edges miss held = All-weaker (IsHeld b) (λ e. misses_latitudes box (segment_of e) ≡ true) (λ e h. under_or_over b box e miss h) edges held

pub none_under_or_over : (b : Block) (box : Box) (edges : List Edge) → IsOrdered box → (int_lt b.north box.y0 || int_lt box.y1 b.south) ≡ true
    → All (IsHeld b) edges → first_point box (map segment_of edges) ≡ None
none_under_or_over b box edges ordered miss held =
    none_first box edges (All-weaker (IsHeld b) (λ e. edge_point box (segment_of e) ≡ None)
    (λ e h. (names_none_beyond box (segment_of e) ordered (or_left _ _ (under_or_over b box e miss h))).0) edges held)

pub none_left_or_right : (b : Block) (box : Box) (edges : List Edge) → IsOrdered box → (int_lt b.east box.x0 || int_lt box.x1 b.west) ≡ true
    → All (IsHeld b) edges → first_point box (map segment_of edges) ≡ None
none_left_or_right b box edges ordered miss held =
    none_first box edges (All-weaker (IsHeld b) (λ e. edge_point box (segment_of e) ≡ None)
    (λ e h. (names_none_beyond box (segment_of e) ordered (or_right _ _ (left_or_right b box e miss h))).0) edges held)

-- edges of which each is beyond a box's latitudes
pub none_on : (box : Box) (edges : List Edge) → IsOrdered box → All (λ e. misses_latitudes box (segment_of e) ≡ true) edges
    → list_any (is_on (corner box)) (map segment_of edges) ≡ false
none_on box [] ordered beyond = refl
none_on box (e ∷ rest) ordered beyond =
    let here = All-head (λ e. misses_latitudes box (segment_of e) ≡ true) e rest beyond in
    ap (λ o. o || list_any (is_on (corner box)) (map segment_of rest))
    (off_apart box (corner box) (segment_of e) (corner_ordered box ordered) (beyond_latitudes box (segment_of e) here))
    ∙ none_on box rest ordered (All-tail (λ e. misses_latitudes box (segment_of e) ≡ true) e rest beyond)

pub none_crossed : (box : Box) (edges : List Edge) → IsOrdered box → All (λ e. misses_latitudes box (segment_of e) ≡ true) edges
    → odd_by (crosses (corner box)) (map segment_of edges) ≡ false
none_crossed box [] ordered beyond = refl
none_crossed box (e ∷ rest) ordered beyond =
    let here = All-head (λ e. misses_latitudes box (segment_of e) ≡ true) e rest beyond in
    ap (λ o. xor o (odd_by (crosses (corner box)) (map segment_of rest))) (crosses_none box (segment_of e) ordered here)
    ∙ none_crossed box rest ordered (All-tail (λ e. misses_latitudes box (segment_of e) ≡ true) e rest beyond)

-- ---- blocks and their edges

parted : (n : ℕ) (edges : List Edge) → map segment_of (take n edges) ++ map segment_of (drop n edges) ≡ map segment_of edges
parted n edges = sym (map-append segment_of (take n edges) (drop n edges)) ∙ ap (map segment_of) (take-append-drop n edges)

pub first_by_blocks : (box : Box) (blocks : List Block) (edges : List Edge) → AreBlocksOf blocks edges
    → first_in_blocks box (cut blocks edges) ≡ first_point box (map segment_of edges)
first_by_blocks box [] edges h = ap (λ (es : List Edge). first_point box (map segment_of es)) (sym h)
first_by_blocks box (b ∷ rest) edges h =
    let own = map segment_of (take b.count edges) in
    ap (λ o. option_or (first_point box own) o) (first_by_blocks box rest (drop b.count edges) h.3)
    ∙ sym (first_point-append box own (map segment_of (drop b.count edges)))
    ∙ ap (first_point box) (parted b.count edges)

-- the edges of a block that isn't empty, and those behind it
scan_block : (p : Place) (n m : ℕ) (odd : Bool) (e : Segment) (own : List Segment) (rest : List (ℕ × Segment))
    → is_in_some p n odd (map (λ s. (m, s)) (e ∷ own) ++ rest)
    ≡ cond (m == n) (list_any (is_on p) (e ∷ own) || is_in_some p n (xor odd (odd_by (crosses p) (e ∷ own))) rest)
    (odd || (list_any (is_on p) (e ∷ own) || is_in_some p m (odd_by (crosses p) (e ∷ own)) rest))
scan_block p n m odd e own rest = by (m == n) refl
  where
    by : (b : Bool) → (m == n) ≡ b
        → is_in_some p n odd (map (λ s. (m, s)) (e ∷ own) ++ rest)
        ≡ cond b (list_any (is_on p) (e ∷ own) || is_in_some p n (xor odd (odd_by (crosses p) (e ∷ own))) rest)
        (odd || (list_any (is_on p) (e ∷ own) || is_in_some p m (odd_by (crosses p) (e ∷ own)) rest))
    by true k =
        let same : m ≡ n = grind (arith, nat_tests) in
        ap (λ (i : ℕ). is_in_some p n odd (map (λ s. (i, s)) (e ∷ own) ++ rest)) same ∙ scan_group p n odd (e ∷ own) rest
    by false k =
        ap (λ b. cond b (is_on p e || is_in_some p n (xor odd (crosses p e)) (map (λ s. (m, s)) own ++ rest))
        (odd || (is_on p e || is_in_some p m (crosses p e) (map (λ s. (m, s)) own ++ rest)))) k
        ∙ ap (λ w. odd || (is_on p e || w)) (scan_group p m (crosses p e) own rest)
        ∙ ap (λ w. odd || w) (sym (or_assoc (is_on p e) (list_any (is_on p) own) (is_in_some p m (xor (crosses p e) (odd_by (crosses p) own)) rest)))

same_polygon : (b : Block) (own : List Edge) → All (IsHeld b) own → map numbered own ≡ map (λ s. (b.polygon, s)) (map segment_of own)
same_polygon b [] held = refl
same_polygon b (e ∷ rest) held =
    ap (λ (n : ℕ). (n, segment_of e) ∷ map numbered rest) (All-head (IsHeld b) e rest held).polygon_is
    ∙ ap (λ (ts : List (ℕ × Segment)). (b.polygon, segment_of e) ∷ ts) (same_polygon b rest (All-tail (IsHeld b) e rest held))

-- one block and the blocks behind it
behind_block : (p : Place) (n : ℕ) (odd : Bool) (b : Block) (edges own after : List Edge) (rest : List (ℕ × List Segment))
    → own ++ after ≡ edges → 0 < length own → All (IsHeld b) own
    → ((k : ℕ) (o : Bool) → is_in_some_block p k o rest ≡ is_in_some p k o (map numbered after))
    → is_in_some_block p n odd ((b.polygon, map segment_of own) ∷ rest) ≡ is_in_some p n odd (map numbered edges)
behind_block p n odd b edges [] after rest all some held ih = absurd (omega arith)
behind_block p n odd b edges (e ∷ own) after rest all some held ih =
    let m : ℕ = b.polygon in
    let es = map segment_of (e ∷ own) in
    let on = list_any (is_on p) es in
    let crossed = odd_by (crosses p) es in
    ap (λ w. cond (m == n) (on || is_in_some_block p n (xor odd w) rest) (odd || (on || is_in_some_block p m w rest))) (is_odd-count_by (crosses p) es)
    ∙ ap (λ w. cond (m == n) (on || w) (odd || (on || is_in_some_block p m crossed rest))) (ih n (xor odd crossed))
    ∙ ap (λ w. cond (m == n) (on || is_in_some p n (xor odd crossed) (map numbered after)) (odd || (on || w))) (ih m crossed)
    ∙ sym (scan_block p n m odd (segment_of e) (map segment_of own) (map numbered after))
    ∙ ap (λ (ts : List (ℕ × Segment)). is_in_some p n odd (ts ++ map numbered after)) (sym (same_polygon b (e ∷ own) held))
    ∙ ap (is_in_some p n odd) (sym (map-append numbered (e ∷ own) after) ∙ ap (map numbered) all)

pub some_by_blocks : (p : Place) (n : ℕ) (odd : Bool) (blocks : List Block) (edges : List Edge) → AreBlocksOf blocks edges
    → is_in_some_block p n odd (cut blocks edges) ≡ is_in_some p n odd (map numbered edges)
some_by_blocks p n odd [] edges h = ap (λ (es : List Edge). is_in_some p n odd (map numbered es)) (sym h)
some_by_blocks p n odd (b ∷ rest) edges h =
    behind_block p n odd b edges (take b.count edges) (drop b.count edges) (cut rest (drop b.count edges))
    (take-append-drop b.count edges) (rw (length-take-le b.count edges h.1) h.0) h.2
    (λ k o. some_by_blocks p k o rest (drop b.count edges) h.3)

-- one more block, of what was left
pub one_more : (edges left : List Edge) (blocks : List Block) (b : Block) (more : List Block)
    → ((more : List Block) → AreBlocksOf more left → AreBlocksOf (blocks ++ more) edges)
    → 0 < b.count → b.count ≤ length left → All (IsHeld b) (take b.count left) → AreBlocksOf more (drop b.count left)
    → AreBlocksOf ((blocks ++ b ∷ []) ++ more) edges
one_more edges left blocks b more so_far some few held behind =
    subst (λ bs. AreBlocksOf bs edges) (sym (append_assoc blocks (b ∷ []) more)) (so_far (b ∷ more) (some, few, held, behind))

pub none_left : (edges : List Edge) → length edges ≡ 0 → edges ≡ []
none_left [] none = refl
none_left (e ∷ rest) none = absurd (omega arith)

-- what a band's blocks name, the district names
pub named_in_blocks : (box : Box) (polygons : List Polygon) (band : BandView) (blocks : List Block) (edges : List Edge) → IsOrdered box
    → band.low ≤ℤ box.y0 → box.y1 ≤ℤ band.high → IsBandOf polygons band → edges ≡ band.edges → AreBlocksOf blocks edges
    → option_or (first_in_blocks box (cut blocks edges))
    (cond (is_in_some_block (corner box) 0 false (cut blocks edges)) (Some (corner box)) None)
    ≡ named box polygons
named_in_blocks box polygons band blocks edges ordered low high is same held =
    let around = is_in_some (corner box) 0 false in
    let inside = λ (b : Bool). cond b (Some (corner box)) None in
    ap (λ o. option_or o (inside (is_in_some_block (corner box) 0 false (cut blocks edges))))
    (first_by_blocks box blocks edges held ∙ ap (λ (es : List Edge). first_point box (map segment_of es)) same
    ∙ ap (first_point box) (band_first polygons band is))
    ∙ ap (λ b. option_or (first_point box (map (λ t. t.1) (edges_between band.low band.high polygons))) (inside b))
    (some_by_blocks (corner box) 0 false blocks edges held ∙ ap (λ (es : List Edge). around (map numbered es)) same ∙ ap around is.edges_are)
    ∙ band_named box polygons band.low band.high ordered low high
