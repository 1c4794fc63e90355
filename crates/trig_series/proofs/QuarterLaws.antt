-- The quarters that a range meets, in whole units.
use Rattle.std.proofs.Common.{◌≡◌, suc, ◌<◌, ◌≤◌, ◌^◌, ℤ, pos, negsuc, neg_ℤ, ◌+ℤ◌, ◌-ℤ◌, ◌*ℤ◌, ◌≤ℤ◌, arith, ap, ap₂, true, false, ◌∙◌, unsigned_abs}
use lib.Signed.{lt_z}
use Rattle.std.specs.Int.{int_div_euclid, int_gap, int_min, int_max}
use Rattle.std.proofs.lemmas.Int.{ints, clamps}
use Rattle.fixed_interval.specs.Grid.{Range}
use Rattle.fixed_interval.proofs.Bits.{bits_of, back}
use Rattle.fixed_interval.specs.Fraction.{Fraction, over, plus, times, negate, floor_at, ceil_at}
use Rattle.fixed_interval.proofs.Whole.{div-parts}
use Rattle.trig_series.specs.Quarters.{eighth_turn, quarter_turn, first_quarter, last_quarter, grid_piece, Meets}

pub last_quarter-whole : (z : ℤ) → last_quarter (over z 1) ≡ int_div_euclid (z +ℤ pos eighth_turn) (pos quarter_turn)
unfolding last_quarter over plus times floor_at
last_quarter-whole z =
    let top : (((z *ℤ pos 1) +ℤ (pos eighth_turn *ℤ pos 1)) *ℤ pos 1) *ℤ pos 1 ≡ z +ℤ pos eighth_turn = omega (arith, ints) in
    ap (λ (t : ℤ). int_div_euclid t (pos quarter_turn)) top

pub first_quarter-whole : (z : ℤ) → first_quarter (over z 1) ≡ neg_ℤ (int_div_euclid (pos eighth_turn -ℤ z) (pos quarter_turn))
unfolding first_quarter over plus times floor_at ceil_at negate
first_quarter-whole z =
    let top : neg_ℤ (((z *ℤ pos 1) +ℤ (neg_ℤ (pos eighth_turn) *ℤ pos 1)) *ℤ pos 1) *ℤ pos 1 ≡ pos eighth_turn -ℤ z = omega (arith, ints) in
    ap (λ (t : ℤ). neg_ℤ (int_div_euclid t (pos quarter_turn))) top

-- the last quarter and those before it begin at the angle or before it
pub begins_in_time : (z c : ℤ) → c ≤ℤ last_quarter (over z 1) → (pos quarter_turn *ℤ c) ≤ℤ (z +ℤ pos eighth_turn)
begins_in_time z c h =
    let q = int_div_euclid (z +ℤ pos eighth_turn) (pos quarter_turn) in
    let le : c ≤ℤ int_div_euclid (z +ℤ pos eighth_turn) (pos quarter_turn) = rw last_quarter-whole at h in
    omega (arith, ints, le, (div-parts (z +ℤ pos eighth_turn) quarter_turn (omega arith)).0)

-- the first quarter and those after it end at the angle or beyond it
pub ends_in_time : (z c : ℤ) → first_quarter (over z 1) ≤ℤ c → (z -ℤ pos eighth_turn) ≤ℤ (pos quarter_turn *ℤ c)
ends_in_time z c h =
    let le : neg_ℤ (int_div_euclid (pos eighth_turn -ℤ z) (pos quarter_turn)) ≤ℤ c = rw first_quarter-whole at h in
    omega (arith, ints, le, (div-parts (pos eighth_turn -ℤ z) quarter_turn (omega arith)).0)

-- and no other quarter does
pub last_no_earlier : (z c : ℤ) → (pos quarter_turn *ℤ c) ≤ℤ (z +ℤ pos eighth_turn) → c ≤ℤ last_quarter (over z 1)
last_no_earlier z c h = rw (last_quarter-whole z) (omega (arith, ints, h, (div-parts (z +ℤ pos eighth_turn) quarter_turn (omega arith)).1))

pub first_no_later : (z c : ℤ) → (z -ℤ pos eighth_turn) ≤ℤ (pos quarter_turn *ℤ c) → first_quarter (over z 1) ≤ℤ c
first_no_later z c h = rw (first_quarter-whole z) (omega (arith, ints, h, (div-parts (pos eighth_turn -ℤ z) quarter_turn (omega arith)).1))

-- a range in order meets a quarter
pub first_before_last : (y z : ℤ) → y ≤ℤ z → first_quarter (over y 1) ≤ℤ last_quarter (over z 1)
first_before_last y z h = rw (first_quarter-whole y, last_quarter-whole z) (omega (arith, ints, h, (div-parts (pos eighth_turn -ℤ y) quarter_turn (omega arith)), (div-parts (z +ℤ pos eighth_turn) quarter_turn (omega arith))))

pub int_gap-is : (a b : ℤ) → a ≤ℤ b → a +ℤ pos (int_gap a b) ≡ b
int_gap-is (pos a) (pos b) h = omega (arith, ints)
int_gap-is (pos a) (negsuc b) h = omega (arith, ints)
int_gap-is (negsuc a) (pos b) h = omega (arith, ints)
int_gap-is (negsuc a) (negsuc b) h = omega (arith, ints)

pub meets_between : (range : Range) (c : ℤ) → first_quarter (over range.lo 1) ≤ℤ c → c ≤ℤ last_quarter (over range.hi 1) → Meets range c
meets_between range c h k = record { begins_in_time = begins_in_time range.hi c k; ends_in_time = ends_in_time range.lo c h }

-- one quarter more
pub int_gap-next : (a b : ℤ) → a ≤ℤ b → int_gap a (b +ℤ pos 1) ≡ suc (int_gap a b)
int_gap-next a b h = omega (arith, ints, int_gap-is a b h, int_gap-is a (b +ℤ pos 1) (omega (arith, ints)))

pub int_gap-same : (a : ℤ) → int_gap a a ≡ 0
int_gap-same a = omega (arith, ints, int_gap-is a a (omega (arith, ints)))

-- what a call gave for an end
pub at_end : (f : Fraction → ℤ) (r z : ℤ) → r ≡ f (over (bits_of z) 1) → unsigned_abs z ≤ 2 ^ 70 → r ≡ f (over z 1)
at_end f r z e h = e ∙ ap (λ (x : ℤ). f (over x 1)) (back z (omega arith))

pub int_gap-falls : (a b : ℤ) → (a +ℤ pos 1) ≤ℤ b → int_gap (a +ℤ pos 1) b < int_gap a b
int_gap-falls a b h = omega (arith, ints, int_gap-is (a +ℤ pos 1) b h, int_gap-is a b (omega (arith, ints)))

pub before : (a b : ℤ) → lt_z a b ≡ true → (a +ℤ pos 1) ≤ℤ b
before a b h = grind (arith, ints)

pub not_before : (a b : ℤ) → lt_z a b ≡ false → b ≤ℤ a
not_before a b h = grind (arith, ints)

-- ---- the ends of a piece, as the code finds them
pub quarter_small : (range : Range) (c : ℤ) → unsigned_abs range.lo ≤ 2 ^ 70 → unsigned_abs range.hi ≤ 2 ^ 70 → Meets range c → unsigned_abs c ≤ 2 ^ 31
quarter_small range c h k m = omega (arith, ints, m.begins_in_time, m.ends_in_time)

-- low and high are the ends of the piece in quarter c, and lie within an eighth of a turn
pub record IsPiece (range : Range) (c low high : ℤ) : Type 0 where
  pub low_is : low ≡ (grid_piece range c).lo
  pub high_is : high ≡ (grid_piece range c).hi
  pub low_small : unsigned_abs low ≤ eighth_turn
  pub high_small : unsigned_abs high ≤ eighth_turn
  pub ordered : low ≤ℤ high

turned_back-is : (z c t : ℤ) → unsigned_abs z ≤ 2 ^ 70 → unsigned_abs c ≤ 2 ^ 31 → t ≡ bits_of z -ℤ (pos quarter_turn *ℤ bits_of c) → bits_of t ≡ z -ℤ (pos quarter_turn *ℤ c)
turned_back-is z c t h k e =
    let is : t ≡ z -ℤ (pos quarter_turn *ℤ c) = e ∙ ap₂ (λ (x y : ℤ). x -ℤ (pos quarter_turn *ℤ y)) (back z (omega arith)) (back c (omega arith)) in
    back t (omega (arith, ints, is)) ∙ is

pub is_piece : (range : Range) (c s t low high : ℤ) → unsigned_abs range.lo ≤ 2 ^ 70 → unsigned_abs range.hi ≤ 2 ^ 70 → range.lo ≤ℤ range.hi → Meets range c → s ≡ bits_of range.lo -ℤ (pos quarter_turn *ℤ bits_of c) → t ≡ bits_of range.hi -ℤ (pos quarter_turn *ℤ bits_of c) → low ≡ int_max (bits_of s) (neg_ℤ (pos eighth_turn)) → high ≡ int_min (bits_of t) (pos eighth_turn) → IsPiece range c low high
unfolding grid_piece
is_piece range c s t low high h k o m es et el eh =
    let x = range.lo -ℤ (pos quarter_turn *ℤ c) in
    let y = range.hi -ℤ (pos quarter_turn *ℤ c) in
    let small = quarter_small range c h k m in
    let low_is : low ≡ int_max x (neg_ℤ (pos eighth_turn)) = el ∙ ap (λ (z : ℤ). int_max z (neg_ℤ (pos eighth_turn))) (turned_back-is range.lo c s h small es) in
    let high_is : high ≡ int_min y (pos eighth_turn) = eh ∙ ap (λ (z : ℤ). int_min z (pos eighth_turn)) (turned_back-is range.hi c t k small et) in
    let before_end : x ≤ℤ pos eighth_turn = omega (arith, ints, m.ends_in_time) in
    let after_begin : neg_ℤ (pos eighth_turn) ≤ℤ y = omega (arith, ints, m.begins_in_time) in
    let order : x ≤ℤ y = omega (arith, ints, o) in
    record {
      low_is = low_is;
      high_is = high_is;
      low_small = low_within x low before_end low_is;
      high_small = high_within y high after_begin high_is;
      ordered = in_order x y low high before_end after_begin order low_is high_is;
    }
  where
    low_within : (x low : ℤ) → x ≤ℤ pos eighth_turn → low ≡ int_max x (neg_ℤ (pos eighth_turn)) → unsigned_abs low ≤ eighth_turn
    low_within x low p e = omega (arith, ints, clamps)

    high_within : (y high : ℤ) → neg_ℤ (pos eighth_turn) ≤ℤ y → high ≡ int_min y (pos eighth_turn) → unsigned_abs high ≤ eighth_turn
    high_within y high p e = omega (arith, ints, clamps)

    in_order : (x y low high : ℤ) → x ≤ℤ pos eighth_turn → neg_ℤ (pos eighth_turn) ≤ℤ y → x ≤ℤ y → low ≡ int_max x (neg_ℤ (pos eighth_turn)) → high ≡ int_min y (pos eighth_turn) → low ≤ℤ high
    in_order x y low high p q r e f = omega (arith, ints, clamps)

pub piece_within : (range : Range) (c : ℤ) → range.lo ≤ℤ range.hi → Meets range c → (neg_ℤ (pos eighth_turn) ≤ℤ (grid_piece range c).lo) × ((grid_piece range c).lo ≤ℤ (grid_piece range c).hi) × ((grid_piece range c).hi ≤ℤ pos eighth_turn)
unfolding grid_piece
piece_within range c h m = core (range.lo -ℤ (pos quarter_turn *ℤ c)) (range.hi -ℤ (pos quarter_turn *ℤ c)) (omega (arith, ints, m.ends_in_time)) (omega (arith, ints, m.begins_in_time)) (omega (arith, ints, h))
  where
    core : (x y : ℤ) → x ≤ℤ pos eighth_turn → neg_ℤ (pos eighth_turn) ≤ℤ y → x ≤ℤ y → (neg_ℤ (pos eighth_turn) ≤ℤ int_max x (neg_ℤ (pos eighth_turn))) × (int_max x (neg_ℤ (pos eighth_turn)) ≤ℤ int_min y (pos eighth_turn)) × (int_min y (pos eighth_turn) ≤ℤ pos eighth_turn)
    core x y p q r = (omega (arith, ints, clamps), omega (arith, ints, clamps), omega (arith, ints, clamps))
