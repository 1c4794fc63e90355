-- The point that an edge names for a box lies in the box and on the edge.
use Rattle.std.proofs.Common.{◌≡◌, ◌⊎◌, inl, inr, Bool, true, false, not, ◌&&◌, cond, Some, None, arith, refl, sym, ap, subst, ◌∙◌}
use Rattle.std.proofs.Math.IntN.{ℤ, pos, ◌+ℤ◌, ◌-ℤ◌, ◌*ℤ◌, neg_ℤ, *ℤ_comm}
use Rattle.std.specs.Prelude.{◌≤ℤ◌, ◌<ℤ◌, int_lt, int_le}
use Rattle.std.specs.Ordering.{int_eq}
use Rattle.std.specs.Option.{option_or}
use Rattle.std.proofs.lemmas.Int.{ints, by_lt_z}
use Rattle.plane_edges.specs.Magnitude.{IsWithin}
use Rattle.plane_edges.specs.Plane.{Place, Segment, Box, IsIn, orientation, encloses, is_on}
use Rattle.plane_edges.specs.EdgePoints.{progress, passing, at_start, at_longitude, at_latitude, edge_point}
use Rattle.plane_edges.proofs.Products.{expand, mul_nonneg, mul_mul, neg_mul, mul_neg, times_mono}
use Rattle.plane_edges.proofs.Truth.{map_some, or_some, or_cases, le_of_lt, and_true, and_left, and_right, or_left, or_right, some_is, not_false, le_true, is_le, lt_true, lt_false}

-- what it means that an edge passes z at value / d
pub record IsPassing (u v s t z low high value d : ℤ) : Type 0 where
  pub positive : pos 0 <ℤ d
  pub from_low : (low *ℤ d) ≤ℤ value
  pub to_high : value ≤ℤ (high *ℤ d)
  pub on_way : encloses (u *ℤ d) (v *ℤ d) (z *ℤ d) ≡ true
  pub between : encloses (s *ℤ d) (t *ℤ d) value ≡ true
  pub on_line : (v -ℤ u) *ℤ (value -ℤ s *ℤ d) ≡ (t -ℤ s) *ℤ (z *ℤ d -ℤ u *ℤ d)

encloses_up : (u v z : ℤ) → u ≤ℤ z → z ≤ℤ v → encloses u v z ≡ true
encloses_up u v z h k = or_left _ _ (and_true _ _ (le_true _ _ h) (le_true _ _ k))

encloses_down : (u v z : ℤ) → v ≤ℤ z → z ≤ℤ u → encloses u v z ≡ true
encloses_down u v z h k = or_right _ _ (and_true _ _ (le_true _ _ h) (le_true _ _ k))

-- the part m of d from s to t lies between them
part_between : (s t m d : ℤ) → pos 0 ≤ℤ m → m ≤ℤ d → encloses (s *ℤ d) (t *ℤ d) (s *ℤ d +ℤ m *ℤ (t -ℤ s)) ≡ true
part_between s t m d h k =
    by_lt_z t s
    (λ down.
    let f = mul_nonneg m (s -ℤ t) h (omega (arith, ints)) in
    let g = mul_nonneg (d -ℤ m) (s -ℤ t) (omega (arith, ints)) (omega (arith, ints)) in
    let p = simp expand at f in
    let q = simp expand at g in
    encloses_down (s *ℤ d) (t *ℤ d) _ (simp expand (omega (arith, ints))) (simp expand (omega (arith, ints))))
    (λ up.
    let f = mul_nonneg m (t -ℤ s) h (omega (arith, ints)) in
    let g = mul_nonneg (d -ℤ m) (t -ℤ s) (omega (arith, ints)) (omega (arith, ints)) in
    let p = simp expand at f in
    let q = simp expand at g in
    encloses_up (s *ℤ d) (t *ℤ d) _ (simp expand (omega (arith, ints))) (simp expand (omega (arith, ints))))

-- the point lies on the line
line_of_part : (s h m d : ℤ) → d *ℤ ((s *ℤ d +ℤ m *ℤ h) -ℤ s *ℤ d) ≡ h *ℤ (m *ℤ d)
line_of_part s h m d =
    let e : (s *ℤ d +ℤ m *ℤ h) -ℤ s *ℤ d ≡ m *ℤ h = omega (arith, ints) in
    ap (λ (x : ℤ). d *ℤ x) e ∙ mul_mul d m h ∙ ap (λ (x : ℤ). x *ℤ h) (*ℤ_comm d m) ∙ *ℤ_comm (m *ℤ d) h

passing_up : (u v s t z low high d m : ℤ) → d ≡ v -ℤ u → m ≡ z -ℤ u → u <ℤ v → u ≤ℤ z → z ≤ℤ v
    → (low *ℤ d) ≤ℤ (s *ℤ d +ℤ m *ℤ (t -ℤ s)) → (s *ℤ d +ℤ m *ℤ (t -ℤ s)) ≤ℤ (high *ℤ d)
    → IsPassing u v s t z low high (s *ℤ d +ℤ m *ℤ (t -ℤ s)) d
passing_up u v s t z low high d m whole part up from to least most =
    let positive : pos 0 <ℤ d = omega (arith, ints) in
    let f = times_mono u z d (le_of_lt _ _ positive) from in
    let g = times_mono z v d (le_of_lt _ _ positive) to in
    let e : z *ℤ d -ℤ u *ℤ d ≡ m *ℤ d = rw part (simp expand (omega (arith, ints))) in
    record {
      positive = positive;
      from_low = least;
      to_high = most;
      on_way = encloses_up _ _ _ f g;
      between = part_between s t m d (omega (arith, ints)) (omega (arith, ints));
      on_line = rw (← whole, e) (line_of_part s (t -ℤ s) m d);
    }

passing_down : (u v s t z low high d m : ℤ) → d ≡ u -ℤ v → m ≡ u -ℤ z → v <ℤ u → v ≤ℤ z → z ≤ℤ u
    → (low *ℤ d) ≤ℤ (s *ℤ d +ℤ m *ℤ (t -ℤ s)) → (s *ℤ d +ℤ m *ℤ (t -ℤ s)) ≤ℤ (high *ℤ d)
    → IsPassing u v s t z low high (s *ℤ d +ℤ m *ℤ (t -ℤ s)) d
passing_down u v s t z low high d m whole part down from to least most =
    let positive : pos 0 <ℤ d = omega (arith, ints) in
    let f = times_mono v z d (le_of_lt _ _ positive) from in
    let g = times_mono z u d (le_of_lt _ _ positive) to in
    let e : z *ℤ d -ℤ u *ℤ d ≡ neg_ℤ (m *ℤ d) = rw part (simp expand (omega (arith, ints))) in
    let w : v -ℤ u ≡ neg_ℤ d = omega (arith, ints) in
    record {
      positive = positive;
      from_low = least;
      to_high = most;
      on_way = encloses_down _ _ _ f g;
      between = part_between s t m d (omega (arith, ints)) (omega (arith, ints));
      on_line = rw (w, e, neg_mul, mul_neg) (ap neg_ℤ (line_of_part s (t -ℤ s) m d));
    }

-- what `encloses` answers
enclosed : (u v z : ℤ) → encloses u v z ≡ true → ((u ≤ℤ z) × (z ≤ℤ v)) ⊎ ((v ≤ℤ z) × (z ≤ℤ u))
enclosed u v z h =
    elim (or_cases (int_le u z && int_le z v) (int_le v z && int_le z u) h) [
      | inl a ↦ inl (is_le u z (and_left (int_le u z) (int_le z v) a), is_le z v (and_right (int_le u z) (int_le z v) a))
      | inr b ↦ inr (is_le v z (and_left (int_le v z) (int_le z u) b), is_le z u (and_right (int_le v z) (int_le z u) b))
    ]

equal_tested : (u v : ℤ) → u ≡ v → int_eq u v ≡ false → ⊥
equal_tested u v e h = grind (arith, ints)

differ : (u v : ℤ) → int_eq u v ≡ false → (u <ℤ v) ⊎ (v <ℤ u)
differ u v h =
    by_lt_z u v (λ up. inl up)
    (λ down. by_lt_z v u (λ less. inr less)
    (λ most. let e : u ≡ v = omega (arith, ints) in absurd (equal_tested u v e h)))

passing_met : (u v s t z low high : ℤ) → (u <ℤ v) ⊎ (v <ℤ u) → ((u ≤ℤ z) × (z ≤ℤ v)) ⊎ ((v ≤ℤ z) × (z ≤ℤ u))
    → (low *ℤ progress u v v) ≤ℤ (s *ℤ progress u v v +ℤ progress u v z *ℤ (t -ℤ s))
    → (s *ℤ progress u v v +ℤ progress u v z *ℤ (t -ℤ s)) ≤ℤ (high *ℤ progress u v v)
    → IsPassing u v s t z low high (s *ℤ progress u v v +ℤ progress u v z *ℤ (t -ℤ s)) (progress u v v)
passing_met u v s t z low high (inl up) (inl (from, to)) least most =
    let way : int_lt u v ≡ true = lt_true u v up in
    passing_up u v s t z low high (progress u v v) (progress u v z) (rw way refl) (rw way refl) up from to least most
passing_met u v s t z low high (inl up) (inr (from, to)) least most = absurd (omega (arith, ints))
passing_met u v s t z low high (inr down) (inl (from, to)) least most = absurd (omega (arith, ints))
passing_met u v s t z low high (inr down) (inr (from, to)) least most =
    let way : int_lt u v ≡ false = lt_false u v (le_of_lt _ _ down) in
    passing_down u v s t z low high (progress u v v) (progress u v z) (rw way refl) (rw way refl) down from to least most

-- what the place where an edge passes a side means
pub passing_is : (u v s t z low high value d : ℤ) → passing u v s t z low high ≡ Some (value, d)
    → IsPassing u v s t z low high value d
passing_is u v s t z low high value d h =
    let whole = progress u v v in
    let at = s *ℤ progress u v v +ℤ progress u v z *ℤ (t -ℤ s) in
    let within = int_le (low *ℤ whole) at && int_le at (high *ℤ whole) in
    let k = some_is (not (int_eq u v) && (encloses u v z && within)) (at, whole) (value, d) h in
    let rest = and_right (not (int_eq u v)) (encloses u v z && within) k.0 in
    let ends = and_right (encloses u v z) within rest in
    let found = passing_met u v s t z low high
    (differ u v (not_false (int_eq u v) (and_left (not (int_eq u v)) (encloses u v z && within) k.0)))
    (enclosed u v z (and_left (encloses u v z) within rest))
    (is_le (low *ℤ whole) at (and_left (int_le (low *ℤ whole) at) (int_le at (high *ℤ whole)) ends))
    (is_le at (high *ℤ whole) (and_right (int_le (low *ℤ whole) at) (int_le at (high *ℤ whole)) ends)) in
    subst (λ (pair : ℤ × ℤ). IsPassing u v s t z low high pair.0 pair.1) k.1 found

-- the point is in the box and on the edge
pub record IsMet (box : Box) (e : Segment) (p : Place) : Type 0 where
  pub inside : IsIn box p
  pub on : is_on p e ≡ true

no_difference : (u v : ℤ) → u ≡ v → u -ℤ v ≡ pos 0
no_difference u v e = omega (arith, ints)

zero_tested : (z : ℤ) → z ≡ pos 0 → int_eq z (pos 0) ≡ true
zero_tested z h = rw h refl

start_met : (box : Box) (e : Segment) (p : Place) → at_start box e ≡ Some p → IsMet box e p
start_met box e p h =
    let north = int_le box.y0 e.ya && int_le e.ya box.y1 in
    let k = some_is (int_le box.x0 e.xa && (int_le e.xa box.x1 && north)) (record { a = e.xa; b = e.ya; d = pos 1 }) p h in
    let rest = and_right (int_le box.x0 e.xa) (int_le e.xa box.x1 && north) k.0 in
    let last = and_right (int_le e.xa box.x1) north rest in
    let w = is_le box.x0 e.xa (and_left (int_le box.x0 e.xa) (int_le e.xa box.x1 && north) k.0) in
    let x = is_le e.xa box.x1 (and_left (int_le e.xa box.x1) north rest) in
    let s = is_le box.y0 e.ya (and_left (int_le box.y0 e.ya) (int_le e.ya box.y1) last) in
    let n = is_le e.ya box.y1 (and_right (int_le box.y0 e.ya) (int_le e.ya box.y1) last) in
    subst (λ (q : Place). IsMet box e q) k.1 (record {
      inside = record {
        positive = omega (arith, ints);
        west = omega (arith, ints);
        east = omega (arith, ints);
        south = omega (arith, ints);
        north = omega (arith, ints);
      };
      on = and_true _ _ (starts e.xa e.xb) (and_true _ _ (starts e.ya e.yb) (zero_tested _ (at_rest e)));
    })
  where
    starts : (u v : ℤ) → encloses (u *ℤ pos 1) (v *ℤ pos 1) u ≡ true
    starts u v =
        by_lt_z u v
        (λ up. encloses_up (u *ℤ pos 1) (v *ℤ pos 1) u (omega (arith, ints)) (omega (arith, ints)))
        (λ down. encloses_down (u *ℤ pos 1) (v *ℤ pos 1) u (omega (arith, ints)) (omega (arith, ints)))

    at_rest : (e : Segment) → orientation e (record { a = e.xa; b = e.ya; d = pos 1 }) ≡ pos 0
    at_rest e = simp expand (omega (arith, ints))

longitude_met : (box : Box) (e : Segment) (x : ℤ) (p : Place) → box.x0 ≤ℤ x → x ≤ℤ box.x1
    → at_longitude box e x ≡ Some p → IsMet box e p
longitude_met box e x p west east h =
    let m = map_some (λ (pair : ℤ × ℤ). record { a = x *ℤ pair.1; b = pair.0; d = pair.1 })
    (passing e.xa e.xb e.ya e.yb x box.y0 box.y1) p h in
    let found = passing_is e.xa e.xb e.ya e.yb x box.y0 box.y1 m.0.0 m.0.1 m.1 in
    let d = m.0.1 in
    let f = times_mono box.x0 x d (le_of_lt _ _ found.positive) west in
    let g = times_mono x box.x1 d (le_of_lt _ _ found.positive) east in
    subst (λ (q : Place). IsMet box e q) m.2 (record {
      inside = record { positive = found.positive; west = f; east = g; south = found.from_low; north = found.to_high };
      on = and_true _ _ found.on_way
          (and_true _ _ found.between (zero_tested _ (no_difference _ _ found.on_line)));
    })

latitude_met : (box : Box) (e : Segment) (y : ℤ) (p : Place) → box.y0 ≤ℤ y → y ≤ℤ box.y1
    → at_latitude box e y ≡ Some p → IsMet box e p
latitude_met box e y p south north h =
    let m = map_some (λ (pair : ℤ × ℤ). record { a = pair.0; b = y *ℤ pair.1; d = pair.1 })
    (passing e.ya e.yb e.xa e.xb y box.x0 box.x1) p h in
    let found = passing_is e.ya e.yb e.xa e.xb y box.x0 box.x1 m.0.0 m.0.1 m.1 in
    let d = m.0.1 in
    let f = times_mono box.y0 y d (le_of_lt _ _ found.positive) south in
    let g = times_mono y box.y1 d (le_of_lt _ _ found.positive) north in
    subst (λ (q : Place). IsMet box e q) m.2 (record {
      inside = record { positive = found.positive; west = found.from_low; east = found.to_high; south = f; north = g };
      on = and_true _ _ found.between
          (and_true _ _ found.on_way (zero_tested _ (no_difference _ _ (sym found.on_line))));
    })

pub edge_met : (box : Box) (e : Segment) (p : Place) → box.x0 ≤ℤ box.x1 → box.y0 ≤ℤ box.y1
    → edge_point box e ≡ Some p → IsMet box e p
edge_met box e p across up h =
    let after_x1 = option_or (at_latitude box e box.y0) (at_latitude box e box.y1) in
    let after_x0 = option_or (at_longitude box e box.x1) after_x1 in
    let after_start = option_or (at_longitude box e box.x0) after_x0 in
    elim (or_some (at_start box e) after_start p h) [
      | inl a ↦ start_met box e p a
      | inr rest ↦ elim (or_some (at_longitude box e box.x0) after_x0 p rest) [
        | inl a ↦ longitude_met box e box.x0 p (omega (arith, ints)) across a
        | inr rest ↦ elim (or_some (at_longitude box e box.x1) after_x1 p rest) [
          | inl a ↦ longitude_met box e box.x1 p across (omega (arith, ints)) a
          | inr rest ↦ elim (or_some (at_latitude box e box.y0) (at_latitude box e box.y1) p rest) [
            | inl a ↦ latitude_met box e box.y0 p (omega (arith, ints)) up a
            | inr a ↦ latitude_met box e box.y1 p up (omega (arith, ints)) a
          ]
        ]
      ]
    ]

-- a part of the way is no longer than the way
pub progress_within : (n u v z : ℤ) → encloses u v z ≡ true → IsWithin n (v -ℤ u) → IsWithin n (progress u v z)
progress_within n u v z h w =
    by_lt_z u v
    (λ up.
    let way : progress u v z ≡ z -ℤ u = rw (lt_true u v up) refl in
    elim (enclosed u v z h) [
      | inl (from, to) ↦ rw way (record { low = omega (arith, ints, w.low, w.high); high = omega (arith, ints, w.low, w.high) })
      | inr (from, to) ↦ absurd (omega (arith, ints))
    ])
    (λ down.
    let way : progress u v z ≡ u -ℤ z = rw (lt_false u v down) refl in
    elim (enclosed u v z h) [
      | inl (from, to) ↦ rw way (record { low = omega (arith, ints, w.low, w.high); high = omega (arith, ints, w.low, w.high) })
      | inr (from, to) ↦ rw way (record { low = omega (arith, ints, w.low, w.high); high = omega (arith, ints, w.low, w.high) })
    ])

-- ---- what the tests say in turn

abbrev at_way : (u v s t z : ℤ) → ℤ
at_way u v s t z = s *ℤ progress u v v +ℤ progress u v z *ℤ (t -ℤ s)

pub passing_off : (u v s t z low high : ℤ) → encloses u v z ≡ false → passing u v s t z low high ≡ None
passing_off u v s t z low high h =
    none_at (not (int_eq u v)) (encloses u v z) (int_le (low *ℤ progress u v v) (at_way u v s t z) && int_le (at_way u v s t z) (high *ℤ progress u v v))
    (at_way u v s t z, progress u v v) h
  where
    none_at : (a b c : Bool) (x : ℤ × ℤ) → b ≡ false → cond (a && (b && c)) (Some x) None ≡ None
    none_at true true c x h = cc
    none_at true false c x h = refl
    none_at false b c x h = refl

pub passing_far : (u v s t z low high : ℤ)
    → (int_le (low *ℤ progress u v v) (s *ℤ progress u v v +ℤ progress u v z *ℤ (t -ℤ s))
    && int_le (s *ℤ progress u v v +ℤ progress u v z *ℤ (t -ℤ s)) (high *ℤ progress u v v)) ≡ false
    → passing u v s t z low high ≡ None
passing_far u v s t z low high h =
    none_at (not (int_eq u v)) (encloses u v z) (int_le (low *ℤ progress u v v) (at_way u v s t z) && int_le (at_way u v s t z) (high *ℤ progress u v v))
    (at_way u v s t z, progress u v v) h
  where
    none_at : (a b c : Bool) (x : ℤ × ℤ) → c ≡ false → cond (a && (b && c)) (Some x) None ≡ None
    none_at true true true x h = cc
    none_at true true false x h = refl
    none_at true false c x h = refl
    none_at false b c x h = refl

pub passing_near : (u v s t z low high : ℤ) → int_eq u v ≡ false → encloses u v z ≡ true
    → (int_le (low *ℤ progress u v v) (s *ℤ progress u v v +ℤ progress u v z *ℤ (t -ℤ s))
    && int_le (s *ℤ progress u v v +ℤ progress u v z *ℤ (t -ℤ s)) (high *ℤ progress u v v)) ≡ true
    → passing u v s t z low high ≡ Some (s *ℤ progress u v v +ℤ progress u v z *ℤ (t -ℤ s), progress u v v)
passing_near u v s t z low high g h k =
    some_at (int_eq u v) (encloses u v z) (int_le (low *ℤ progress u v v) (at_way u v s t z) && int_le (at_way u v s t z) (high *ℤ progress u v v))
    (at_way u v s t z, progress u v v) g h k
  where
    some_at : (a b c : Bool) (x : ℤ × ℤ) → a ≡ false → b ≡ true → c ≡ true → cond (not a && (b && c)) (Some x) None ≡ Some x
    some_at true b c x g h k = cc
    some_at false true true x g h k = refl
    some_at false true false x g h k = cc
    some_at false false c x g h k = cc

-- a number between two within a limit is within it
pub between_within : (n low value high : ℤ) → IsWithin n low → IsWithin n high
    → (int_le low value && int_le value high) ≡ true → IsWithin n value
between_within n low value high p q h =
    let a = is_le low value (and_left (int_le low value) (int_le value high) h) in
    let b = is_le value high (and_right (int_le low value) (int_le value high) h) in
    record { low = omega (arith, ints, p.low); high = omega (arith, ints, q.high) }

pub wider : (m n z : ℤ) → m ≤ℤ n → IsWithin m z → IsWithin n z
wider m n z h w = record { low = omega (arith, ints, w.low); high = omega (arith, ints, w.high) }

pub start_off : (box : Box) (e : Segment) → (int_le box.y0 e.ya && int_le e.ya box.y1) ≡ false → at_start box e ≡ None
start_off box e h = none_at (int_le box.x0 e.xa) (int_le e.xa box.x1) (int_le box.y0 e.ya && int_le e.ya box.y1) _ h
  where
    none_at : (a b c : Bool) (x : Place) → c ≡ false → cond (a && (b && c)) (Some x) None ≡ None
    none_at true true true x h = cc
    none_at true true false x h = refl
    none_at true false c x h = refl
    none_at false b c x h = refl

pub start_in : (box : Box) (e : Segment) → (int_le box.x0 e.xa && int_le e.xa box.x1) ≡ true
    → (int_le box.y0 e.ya && int_le e.ya box.y1) ≡ true → at_start box e ≡ Some (record { a = e.xa; b = e.ya; d = pos 1 })
start_in box e g h = some_at (int_le box.x0 e.xa) (int_le e.xa box.x1) (int_le box.y0 e.ya && int_le e.ya box.y1) _ g h
  where
    some_at : (a b c : Bool) (x : Place) → (a && b) ≡ true → c ≡ true → cond (a && (b && c)) (Some x) None ≡ Some x
    some_at true true true x g h = refl
    some_at true true false x g h = cc
    some_at true false c x g h = cc
    some_at false b c x g h = cc
