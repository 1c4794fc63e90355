-- The join of entries that are right for districts is right for all of them together.
use Rattle.std.proofs.Common.{◌≡◌, ℕ, suc, ◌-◌, ◌<◌, ◌≤◌, ◌==◌, Bool, true, false, cond, ◌||◌, ◌⊎◌, inl, inr, List, [], ◌∷◌, Option, Some, None, refl, sym, ap, ◌∙◌, subst, arith}
use Rattle.std.specs.Prelude.{IsTrue, max, nat_le, nat_lt}
use Rattle.std.proofs.lemmas.Bool.{false≢true}
use Rattle.std.proofs.lemmas.Bool.Decides.{nat_tests}
use Rattle.std.proofs.lemmas.List.Elements.{recursion_from_All}
use Rattle.std.proofs.lemmas.List.Folds.{list_any-append}
use Rattle.solar_terms.specs.SunLaws.{SunSource}
use Rattle.method_table.specs.Row.{Row}
use Rattle.plane_edges.specs.Plane.{Place}
use Rattle.ring_survey.specs.Polygons.{Polygon}
use Rattle.region.specs.Rings.{is_in_district, is_in_polygon}
use Rattle.cell_split.specs.declared.cell.Cell.{Cell}
use Rattle.cell_split.specs.declared.verdict.Entry.{Entry}
use Rattle.cell_split.specs.declared.verdict.Entry.TheVariants.{Minute, Whole, Never, Open}
use Rattle.cell_split.specs.Entries.{decided}
use Rattle.cell_split.proofs.Every.{Every, Every-both, Every-weaker, Somewhere, Somewhere-weaker}
use Rattle.cell_judge.specs.RightEntries.{FailsSomewhere, IsRight, IsSafeFrom, IsUndecidedIn}
use Rattle.cell_judge.specs.Scenes.{FailsAt, HoldsAt, IsNearAt, IsPlaceOf, Scene}
use Rattle.cell_judge.proofs.EntryLaws.{one_decided_entry_is_right}
use Rattle.district_set.specs.Joins.{decided_value, first_open, greatest, join_entries, joined, open_from, open_safe}
use Rattle.district_set.specs.JoinLaws.{JoinsAgree, JoinsAreRight, entries_of, polygons_of, scene_over}

-- a district with its entry
abbrev Part : Type 0
Part = List Polygon × Entry

-- ---- places of a district, and of all together

either_true : (a b : Bool) → IsTrue (a || b) → IsTrue a ⊎ IsTrue b
either_true true b h = inl h
either_true false b h = inr h

left_true : (a b : Bool) → IsTrue a → IsTrue (a || b)
left_true true b h = h
left_true false b h = absurd (false≢true h)

right_true : (a b : Bool) → IsTrue b → IsTrue (a || b)
right_true true b h = refl
right_true false b h = h

apart : (p : Place) (x : Part) (xs : List Part) → is_in_district p (polygons_of (x ∷ xs)) ≡ (is_in_district p x.0 || is_in_district p (polygons_of xs))
apart p x xs = list_any-append (is_in_polygon p) x.0 (polygons_of xs)

module _ (sun : SunSource) (row : Row) where
  -- a place of the first district, and one of the others
  in_first : (p : Place) (x : Part) (xs : List Part) → IsPlaceOf (scene_over sun row x.0) p → IsPlaceOf (scene_over sun row (polygons_of (x ∷ xs))) p
  in_first p x xs h = record {
    positive = h.positive;
    inside = subst IsTrue (sym (apart p x xs)) (left_true (is_in_district p x.0) (is_in_district p (polygons_of xs)) h.inside);
  }

  in_others : (p : Place) (x : Part) (xs : List Part) → IsPlaceOf (scene_over sun row (polygons_of xs)) p → IsPlaceOf (scene_over sun row (polygons_of (x ∷ xs))) p
  in_others p x xs h = record {
    positive = h.positive;
    inside = subst IsTrue (sym (apart p x xs)) (right_true (is_in_district p x.0) (is_in_district p (polygons_of xs)) h.inside);
  }

  in_some : (p : Place) (x : Part) (xs : List Part) → IsPlaceOf (scene_over sun row (polygons_of (x ∷ xs))) p →
      IsPlaceOf (scene_over sun row x.0) p ⊎ IsPlaceOf (scene_over sun row (polygons_of xs)) p
  in_some p x xs h =
      elim (either_true (is_in_district p x.0) (is_in_district p (polygons_of xs)) (subst IsTrue (apart p x xs) h.inside)) [
        | inl here ↦ inl (record { positive = h.positive; inside = here })
        | inr there ↦ inr (record { positive = h.positive; inside = there })
      ]

  -- ---- what is so in each district, or in some, is so in all together

  safe_in_all : (rank : ℕ) (xs : List Part) → Every (λ x. IsSafeFrom (scene_over sun row x.0) rank) xs → IsSafeFrom (scene_over sun row (polygons_of xs)) rank
  unfolding HoldsAt
  safe_in_all rank [] h = record { holds = λ p place later from to. absurd (false≢true place.inside) }
  safe_in_all rank (x ∷ xs) h = record {
    holds = λ p place later from to.
        elim (in_some p x xs place) [
          | inl here ↦ h.0.holds p here later from to
          | inr there ↦ (safe_in_all rank xs h.1).holds p there later from to
        ];
  }

  fails_in_all : (rank : ℕ) (xs : List Part) → Somewhere (λ x. FailsSomewhere (scene_over sun row x.0) rank) xs → FailsSomewhere (scene_over sun row (polygons_of xs)) rank
  unfolding FailsAt
  fails_in_all rank [] h = absurd h
  fails_in_all rank (x ∷ xs) (inl h) = record { place = h.place; is_place = in_first h.place x xs h.is_place; fails = h.fails }
  fails_in_all rank (x ∷ xs) (inr h) =
      let rest = fails_in_all rank xs h in
      record { place = rest.place; is_place = in_others rest.place x xs rest.is_place; fails = rest.fails }

  undecided_in_all : (root cell : Cell) (safe : ℕ) (xs : List Part) → Somewhere (λ x. IsUndecidedIn (scene_over sun row x.0) root cell safe) xs →
      IsUndecidedIn (scene_over sun row (polygons_of xs)) root cell safe
  unfolding IsNearAt
  undecided_in_all root cell safe [] h = absurd h
  undecided_in_all root cell safe (x ∷ xs) (inl h) = record {
    of_root = h.of_root;
    smallest = h.smallest;
    one_rank = h.one_rank;
    place = h.place;
    in_box = h.in_box;
    is_place = in_first h.place x xs h.is_place;
    near = h.near;
  }
  undecided_in_all root cell safe (x ∷ xs) (inr h) =
      let rest = undecided_in_all root cell safe xs h in
      record {
        of_root = rest.of_root;
        smallest = rest.smallest;
        one_rank = rest.one_rank;
        place = rest.place;
        in_box = rest.in_box;
        is_place = in_others rest.place x xs rest.is_place;
        near = rest.near;
      }

-- ---- greatest values

at_most : (value : Entry → ℕ) (n : ℕ) (xs : List Part) → greatest value (entries_of xs) ≤ n → Every (λ x. value x.1 ≤ n) xs
at_most value n [] h = tt
at_most value n (x ∷ xs) h = (omega (arith, h), at_most value n xs (omega (arith, h)))

bounded : (value : Entry → ℕ) (n : ℕ) (xs : List Part) → Every (λ x. value x.1 ≤ n) xs → greatest value (entries_of xs) ≤ n
bounded value n [] h = omega arith
bounded value n (x ∷ xs) h = let rest = bounded value n xs h.1 in omega (arith, h.0, rest)

which : (a b n : ℕ) → max a b ≡ suc n → (a ≡ suc n) ⊎ (b ≡ suc n)
which a b n k = by (nat_lt a b) refl where
  by : (t : Bool) → nat_lt a b ≡ t → (a ≡ suc n) ⊎ (b ≡ suc n)
  by true e = inr (grind (arith, nat_tests, e, k))
  by false e = inl (grind (arith, nat_tests, e, k))

attained : (value : Entry → ℕ) (n : ℕ) (xs : List Part) → greatest value (entries_of xs) ≡ suc n → Somewhere (λ x. value x.1 ≡ suc n) xs
attained value n [] h = absurd (omega (arith, h))
attained value n (x ∷ xs) h =
    elim (which (value x.1) (greatest value (entries_of xs)) n h) [
      | inl here ↦ inl here
      | inr there ↦ inr (attained value n xs there)
    ]

-- an entry that is found, and that it is one of the list
record IsFound (safe : ℕ) (xs : List Part) : Type 0 where
  entry : Entry
  found : first_open safe (entries_of xs) ≡ Some entry
  is_safe : open_safe entry ≡ safe
  of_some : Somewhere (λ x. x.1 ≡ entry) xs

find_first : (safe : ℕ) (xs : List Part) → Somewhere (λ x. open_safe x.1 ≡ safe) xs → IsFound safe xs
find_first safe [] h = absurd h
find_first safe (x ∷ xs) h = by (open_safe x.1 == safe) refl h (find_first safe xs) where
  by : (t : Bool) → (open_safe x.1 == safe) ≡ t → Somewhere (λ y. open_safe y.1 ≡ safe) (x ∷ xs) →
      (Somewhere (λ y. open_safe y.1 ≡ safe) xs → IsFound safe xs) → IsFound safe (x ∷ xs)
  by true e h others = record {
    entry = x.1;
    found = ap (λ (t : Bool). cond t (Some x.1) (first_open safe (entries_of xs))) e;
    is_safe = grind (arith, nat_tests, e);
    of_some = inl refl;
  }
  by false e (inl h) others = absurd (grind (arith, nat_tests, e, h))
  by false e (inr h) others =
      let rest = others h in
      record {
        entry = rest.entry;
        found = ap (λ (t : Bool). cond t (Some x.1) (first_open safe (entries_of xs))) e ∙ rest.found;
        is_safe = rest.is_safe;
        of_some = inr rest.of_some;
      }

-- ---- one right entry

later_safe : (s : Scene) (m n : ℕ) → m ≤ n → IsSafeFrom s m → IsSafeFrom s n
later_safe s m n h safe = record { holds = λ p place later from to. safe.holds p place later (omega (arith, h, from)) to }

-- the condition holds from its safe rank on
safe_of : (s : Scene) (root : Cell) (e : Entry) (n : ℕ) → decided_value e ≤ n → open_safe e ≤ n → IsRight s root e → IsSafeFrom s n
safe_of s root (Minute rank) n h k right = later_safe s rank n h right.safe
safe_of s root Whole n h k right = later_safe s 0 n h right
safe_of s root Never n h k right = record { holds = λ p place later from to. absurd (omega (arith, h, from, to)) }
safe_of s root (Open safe from cell) n h k right = later_safe s safe n k right.safe_from

-- it fails at the rank before that of a decided one, and before the `from` of an undecided one
fails_before_decided : (s : Scene) (root : Cell) (e : Entry) (n : ℕ) → decided_value e ≡ suc n → IsRight s root e → FailsSomewhere s n
fails_before_decided s root (Minute rank) n same right = subst (FailsSomewhere s) (omega (arith, same)) right.before
fails_before_decided s root Whole n same right = absurd (omega (arith, same))
fails_before_decided s root Never n same right = subst (FailsSomewhere s) (omega (arith, same)) right
fails_before_decided s root (Open safe from cell) n same right = absurd (omega (arith, same))

fails_before_open : (s : Scene) (root : Cell) (e : Entry) (n : ℕ) → open_from e ≡ suc n → IsRight s root e → FailsSomewhere s n
fails_before_open s root (Minute rank) n same right = absurd (omega (arith, same))
fails_before_open s root Whole n same right = absurd (omega (arith, same))
fails_before_open s root Never n same right = absurd (omega (arith, same))
fails_before_open s root (Open safe from cell) n same right =
    subst (FailsSomewhere s) (omega (arith, same)) (right.before (omega (arith, same)))

decided_small : (s : Scene) (root : Cell) (e : Entry) → IsRight s root e → decided_value e ≤ 721
decided_small s root (Minute rank) right = let last = right.in_frame in omega (arith, last)
decided_small s root Whole right = omega arith
decided_small s root Never right = omega arith
decided_small s root (Open safe from cell) right = omega arith

open_small : (s : Scene) (root : Cell) (e : Entry) → IsRight s root e → open_safe e ≤ 721
open_small s root (Minute rank) right = omega arith
open_small s root Whole right = omega arith
open_small s root Never right = omega arith
open_small s root (Open safe from cell) right = right.in_frame

from_small : (s : Scene) (root : Cell) (e : Entry) (n : ℕ) → open_safe e ≤ suc n → IsRight s root e → open_from e ≤ n
from_small s root (Minute rank) n h right = omega arith
from_small s root Whole n h right = omega arith
from_small s root Never n h right = omega arith
from_small s root (Open safe from cell) n h right = let less = right.ordered in omega (arith, h, less)

-- ---- all of them

module _ (sun : SunSource) (row : Row) (root : Cell) (parts : List Part) where
  abbrev Right : Part → Type 0
  Right x = IsRight (scene_over sun row x.0) root x.1

  abbrev all : Scene
  all = scene_over sun row (polygons_of parts)

  abbrev value : ℕ
  value = greatest decided_value (entries_of parts)

  abbrev safe : ℕ
  safe = greatest open_safe (entries_of parts)

  abbrev from : ℕ
  from = greatest open_from (entries_of parts)

  -- safe from a rank on that no part's safe rank is later than
  safe_all : Every Right parts → (n : ℕ) → value ≤ n → safe ≤ n → IsSafeFrom all n
  safe_all right n h k =
      safe_in_all sun row n parts
      (Every-weaker (λ x. (decided_value x.1 ≤ n) × ((open_safe x.1 ≤ n) × Right x)) (λ x. IsSafeFrom (scene_over sun row x.0) n) parts
      (λ x l. safe_of (scene_over sun row x.0) root x.1 n l.0 l.1.0 l.1.1)
      (Every-both (λ x. decided_value x.1 ≤ n) (λ x. (open_safe x.1 ≤ n) × Right x) parts (at_most decided_value n parts h)
      (Every-both (λ x. open_safe x.1 ≤ n) Right parts (at_most open_safe n parts k) right)))

  fails_decided : Every Right parts → (n : ℕ) → value ≡ suc n → FailsSomewhere all n
  fails_decided right n same =
      fails_in_all sun row n parts
      (Somewhere-weaker Right (λ x. decided_value x.1 ≡ suc n) (λ x. FailsSomewhere (scene_over sun row x.0) n) parts
      (λ x r e. fails_before_decided (scene_over sun row x.0) root x.1 n e r) right (attained decided_value n parts same))

  fails_open : Every Right parts → (n : ℕ) → from ≡ suc n → FailsSomewhere all n
  fails_open right n same =
      fails_in_all sun row n parts
      (Somewhere-weaker Right (λ x. open_from x.1 ≡ suc n) (λ x. FailsSomewhere (scene_over sun row x.0) n) parts
      (λ x r e. fails_before_open (scene_over sun row x.0) root x.1 n e r) right (attained open_from n parts same))

  decided_all : Every Right parts → value ≤ 721
  decided_all right =
      bounded decided_value 721 parts (Every-weaker Right (λ x. decided_value x.1 ≤ 721) parts (λ x r. decided_small (scene_over sun row x.0) root x.1 r) right)

  open_all : Every Right parts → safe ≤ 721
  open_all right =
      bounded open_safe 721 parts (Every-weaker Right (λ x. open_safe x.1 ≤ 721) parts (λ x r. open_small (scene_over sun row x.0) root x.1 r) right)

  from_all : Every Right parts → (n : ℕ) → safe ≤ suc n → from ≤ n
  from_all right n h =
      bounded open_from n parts
      (Every-weaker (λ x. (open_safe x.1 ≤ suc n) × Right x) (λ x. open_from x.1 ≤ n) parts (λ x l. from_small (scene_over sun row x.0) root x.1 n l.0 l.1)
      (Every-both (λ x. open_safe x.1 ≤ suc n) Right parts (at_most open_safe (suc n) parts h) right))

  -- no undecided entry is safe only later than the decided ones
  decided_right : Every Right parts → safe ≤ value → (v : ℕ) → v ≡ value → IsRight all root (decided v)
  decided_right right order v same = by (v == 0) (v == 721) refl refl where
    by : (t u : Bool) → (v == 0) ≡ t → (v == 721) ≡ u → IsRight all root (cond t Whole (cond u Never (Minute v)))
    by true u e f = safe_all right 0 (grind (arith, nat_tests, e, same)) (grind (arith, nat_tests, e, same, order))
    by false true e f = fails_decided right 720 (grind (arith, nat_tests, f, same))
    by false false e f =
        let small = decided_all right in
        let positive : 1 ≤ v = grind (arith, nat_tests, e) in
        record {
          not_first = positive;
          in_frame = grind (arith, nat_tests, f, same, small);
          safe = safe_all right v (omega (arith, same)) (omega (arith, same, order));
          before = fails_decided right (v - 1) (omega (arith, same, positive));
        }

  -- a found entry is safe only later than the decided ones
  open_right : Every Right parts → value < safe → (e : Entry) → open_safe e ≡ safe → Somewhere (λ x. x.1 ≡ e) parts → IsRight all root (joined value from (Some e))
  open_right right order (Minute rank) same of_some = absurd (omega (arith, order, same))
  open_right right order Whole same of_some = absurd (omega (arith, order, same))
  open_right right order Never same of_some = absurd (omega (arith, order, same))
  open_right right order (Open s f cell) same of_some = record {
    ordered = (let less = from_all right (safe - 1) (omega (arith, order)) in omega (arith, order, same, less));
    in_frame = (let last = open_all right in omega (arith, same, last));
    safe_from = safe_all right s (omega (arith, order, same)) (omega (arith, same));
    before = λ h. by (max value from - 1) (omega (arith, h));
    undecided = undecided_in_all sun row root cell s parts
        (Somewhere-weaker Right (λ x. x.1 ≡ Open s f cell) (λ x. IsUndecidedIn (scene_over sun row x.0) root cell s) parts
        (λ x r e. (let here : IsRight (scene_over sun row x.0) root (Open s f cell) = subst (IsRight (scene_over sun row x.0) root) e r in here.undecided)) right of_some);
  }
    where
      by : (n : ℕ) → max value from ≡ suc n → FailsSomewhere all n
      by n e = elim (which value from n e) [ inl v ↦ fails_decided right n v | inr u ↦ fails_open right n u ]

  -- the greatest safe rank is an undecided entry's
  left_right : Every Right parts → value < safe → IsRight all root (joined value from (first_open safe (entries_of parts)))
  left_right right order =
      let k = safe - 1 in
      let there : safe ≡ suc k = omega (arith, order) in
      let found = find_first safe parts (subst (λ (n : ℕ). Somewhere (λ x. open_safe x.1 ≡ n) parts) (sym there) (attained open_safe k parts there)) in
      subst (λ (o : Option Entry). IsRight all root (joined value from o)) (sym found.found)
      (open_right right order found.entry found.is_safe found.of_some)

  join_right : Every Right parts → IsRight all root (join_entries (entries_of parts))
  unfolding join_entries
  join_right right = by (nat_le safe value) refl where
    by : (t : Bool) → nat_le safe value ≡ t → IsRight all root (joined value from (cond t None (first_open safe (entries_of parts))))
    by true e = decided_right right (grind (arith, nat_tests, e)) value refl
    by false e = left_right right (grind (arith, nat_tests, e))

-- ---- the laws

pub joins_are_right : JoinsAreRight
joins_are_right sun row root parts right =
    join_right sun row root parts (recursion_from_All (λ x. IsRight (scene_over sun row x.0) root x.1) parts right)

pub joins_agree : JoinsAgree
joins_agree sun row root parts source kind right whole is_right decided_whole decided_join =
    one_decided_entry_is_right (scene_over sun row (polygons_of parts)) source kind root (join_entries (entries_of parts)) whole decided_join decided_whole
    (joins_are_right sun row root parts right) is_right
