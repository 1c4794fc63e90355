-- The rows of the table for a day: their kinds are in range, and their minutes within the limits.
use Rattle.std.proofs.Common.{◌≡◌, ℕ, zero, suc, ◌*◌, ◌<◌, ◌≤◌, ◌==◌, Bool, true, false, cond, List, [], ◌∷◌, length, get_or, refl, sym, ap, subst, ◌∙◌, arith}
use Rattle.std.specs.Prelude.{ℤ, pos, ◌-ℤ◌, ◌≤ℤ◌, nat_le}
use Rattle.std.proofs.lemmas.Bool.Decides.{nat_tests}
use Rattle.std.proofs.lemmas.Int.{ints}
use Rattle.std.proofs.lemmas.List.{get_or-map, length-map}
use Rattle.method_table.specs.declared.method.Asr.{Asr}
use Rattle.method_table.specs.declared.method.Asr.TheVariants.{Standard, Hanafi}
use Rattle.method_table.specs.declared.method.Method.{Method}
use Rattle.method_table.specs.declared.method.Method.TheVariants.{Mwl, Isna, Egypt, Karachi, Makkah, Tehran, Jafari}
use Rattle.method_table.specs.declared.problem.Column.{Column}
use Rattle.method_table.specs.declared.problem.Column.TheVariants.{Fajr, FajrEnd, Dhuhr, Asr as AsrColumn, Maghrib, MaghribEnd, Isha}
use Rattle.method_table.specs.declared.problem.Kind.{Kind}
use Rattle.method_table.specs.declared.problem.Kind.TheVariants.{Above, Below, Past, Shadow}
use Rattle.method_table.specs.declared.problem.Side.{Side}
use Rattle.method_table.specs.declared.problem.Side.TheVariants.{Start, End}
use Rattle.method_table.specs.Horizon.{DIP_SQUARED, floor_root, horizon, root_from}
use Rattle.method_table.specs.Kind.{IsAngleRange, IsKind}
use Rattle.method_table.specs.Row.{Row, above, below, row, row_of}
use Rattle.method_table.specs.Table.{base_of, exactly, fajr_tenths, isha_range, isha_shift, maghrib_range, shadow_factor}
use Rattle.method_table.proofs.RootLemmas.{square_lt}
use Rattle.cell_judge.specs.DayLaws.{DaysAreInLimits, DaysHaveRows, IsDay}
use Rattle.cell_judge.specs.Limits.{IsInLimits}
use Rattle.cell_judge.specs.SkyLaws.{IsRow}
use Rattle.cell_judge.specs.Skies.{row_at}

-- ---- kinds

above_in_range : (low high : ℤ) → IsAngleRange low high → IsKind (Above low high)
above_in_range low high is = record {
  above = λ l h e.
      let same_low : low ≡ l = cc in
      let same_high : high ≡ h = cc in
      subst (λ z. IsAngleRange l z) same_high (subst (λ z. IsAngleRange z high) same_low is);
  below = λ l h e. absurd cc;
  shadow = λ factor e. absurd cc;
}

below_in_range : (low high : ℤ) → IsAngleRange low high → IsKind (Below low high)
below_in_range low high is = record {
  above = λ l h e. absurd cc;
  below = λ l h e.
      let same_low : low ≡ l = cc in
      let same_high : high ≡ h = cc in
      subst (λ z. IsAngleRange l z) same_high (subst (λ z. IsAngleRange z high) same_low is);
  shadow = λ factor e. absurd cc;
}

past_in_range : IsKind Past
past_in_range = record { above = λ l h e. absurd cc; below = λ l h e. absurd cc; shadow = λ factor e. absurd cc }

shadow_in_range : (a : Asr) → IsKind (Shadow (shadow_factor a))
shadow_in_range a = record {
  above = λ l h e. absurd cc;
  below = λ l h e. absurd cc;
  shadow = λ factor e. by a factor (let same : shadow_factor a ≡ factor = cc in same);
}
  where
    by : (a : Asr) (factor : ℕ) → shadow_factor a ≡ factor → (1 ≤ factor) × (factor ≤ 2)
    by Standard factor e = (omega arith, omega arith)
    by Hanafi factor e = (omega arith, omega arith)

-- ---- angles

-- a range of angles as a pair
abbrev IsRange : ℤ × ℤ → Type 0
IsRange range = IsAngleRange range.0 range.1

exactly_in_range : (tenths : ℕ) → tenths ≤ 300 → IsRange (exactly tenths)
exactly_in_range tenths h = record {
  not_negative = omega (arith, ints);
  ordered = omega (arith, ints);
  narrow = omega (arith, ints);
  small = omega (arith, ints);
}

root_square : (n k : ℕ) → root_from n k * root_from n k ≤ n
unfolding root_from
root_square n zero = omega arith
root_square n (suc k) = by (nat_le (suc k * suc k) n) refl (root_square n k) where
  by : (t : Bool) → nat_le (suc k * suc k) n ≡ t → root_from n k * root_from n k ≤ n → cond t (suc k) (root_from n k) * cond t (suc k) (root_from n k) ≤ n
  by true e before = let s : suc k * suc k ≤ n = grind (arith, nat_tests) in s
  by false e before = before

root_small : (n : ℕ) → n < 500_000_000_000 * 500_000_000_000 → floor_root n < 500_000_000_000
unfolding floor_root
root_small n h = square_lt (root_from n n) 500_000_000_000 (omega (arith, root_square n n))

one_more : (t : Bool) → cond t 0 1 ≤ 1
one_more true = omega arith
one_more false = omega arith

horizon_in_range : (height : ℕ) → height ≤ 9000 → IsRange (horizon height)
horizon_in_range height h =
    let n = DIP_SQUARED * height in
    let small = root_small n (omega arith) in
    let more = one_more (floor_root n * floor_root n == n) in
    record {
      not_negative = omega (arith, ints);
      ordered = omega (arith, ints);
      narrow = omega (arith, ints, more);
      small = omega (arith, ints, more, small);
    }

fajr_in_range : (m : Method) → IsRange (exactly (fajr_tenths m))
fajr_in_range m = exactly_in_range (fajr_tenths m) (by m) where
  by : (m : Method) → fajr_tenths m ≤ 300
  by Mwl = omega arith
  by Isna = omega arith
  by Egypt = omega arith
  by Karachi = omega arith
  by Makkah = omega arith
  by Tehran = omega arith
  by Jafari = omega arith

maghrib_in_range : (m : Method) (height : ℕ) → height ≤ 9000 → IsRange (maghrib_range m height)
maghrib_in_range Tehran height h = exactly_in_range 45 (omega arith)
maghrib_in_range Jafari height h = exactly_in_range 40 (omega arith)
maghrib_in_range Mwl height h = horizon_in_range height h
maghrib_in_range Isna height h = horizon_in_range height h
maghrib_in_range Egypt height h = horizon_in_range height h
maghrib_in_range Karachi height h = horizon_in_range height h
maghrib_in_range Makkah height h = horizon_in_range height h

isha_in_range : (m : Method) (height : ℕ) → height ≤ 9000 → IsRange (isha_range m height)
isha_in_range Mwl height h = exactly_in_range 170 (omega arith)
isha_in_range Isna height h = exactly_in_range 150 (omega arith)
isha_in_range Egypt height h = exactly_in_range 175 (omega arith)
isha_in_range Karachi height h = exactly_in_range 180 (omega arith)
isha_in_range Makkah height h = maghrib_in_range Makkah height h
isha_in_range Tehran height h = exactly_in_range 140 (omega arith)
isha_in_range Jafari height h = exactly_in_range 140 (omega arith)

-- ---- rows

row_in_range : (column : Column) (side : Side) (first day offset noon : ℤ) (kind : Kind) (shift : ℤ) (height : ℕ) → IsDay day offset noon height
    → (noon -ℤ pos 720) ≤ℤ first → first ≤ℤ noon → IsKind kind → IsRow (row column side first (base_of day offset) kind shift)
row_in_range column side first day offset noon kind shift height is low high in_range = record {
  kind = in_range;
  framed = refl;
  limits = record {
    not_before = omega (arith, ints, is.not_early, is.offset_not_high, is.noon_not_negative);
    not_after = omega (arith, ints, is.not_late, is.offset_not_low, is.noon_below_a_day);
  };
}

each_of_seven : (P : Row → Type 0) (a b c d e f g last : Row) → P a → P b → P c → P d → P e → P f → P g → (k : ℕ) → k < 7
    → P (get_or (a ∷ b ∷ c ∷ d ∷ e ∷ f ∷ g ∷ []) k last)
each_of_seven P a b c d e f g last p q r s t u v zero h = p
each_of_seven P a b c d e f g last p q r s t u v (suc zero) h = q
each_of_seven P a b c d e f g last p q r s t u v (suc (suc zero)) h = r
each_of_seven P a b c d e f g last p q r s t u v (suc (suc (suc zero))) h = s
each_of_seven P a b c d e f g last p q r s t u v (suc (suc (suc (suc zero)))) h = t
each_of_seven P a b c d e f g last p q r s t u v (suc (suc (suc (suc (suc zero))))) h = u
each_of_seven P a b c d e f g last p q r s t u v (suc (suc (suc (suc (suc (suc zero)))))) h = v
each_of_seven P a b c d e f g last p q r s t u v (suc (suc (suc (suc (suc (suc (suc k))))))) h = absurd (omega arith)

pub days_have_rows : DaysHaveRows
days_have_rows m a day offset noon height interval is =
    let one : (column : Column) (side : Side) (first : ℤ) (kind : Kind) (shift : ℤ) → (noon -ℤ pos 720) ≤ℤ first → first ≤ℤ noon → IsKind kind
    → IsRow (row column side first (base_of day offset) kind shift) =
    λ column side first kind shift low high in_range. row_in_range column side first day offset noon kind shift height is low high in_range in
    let fajr = above_in_range _ _ (fajr_in_range m) in
    let sunrise = below_in_range _ _ (horizon_in_range height is.not_high) in
    let sunset = below_in_range _ _ (maghrib_in_range m height is.not_high) in
    let dusk = above_in_range _ _ (isha_in_range m height is.not_high) in
    let night = below_in_range _ _ (isha_in_range m height is.not_high) in
    each_of_seven IsRow _ _ _ _ _ _ _ _
    (one Fajr Start (noon -ℤ pos 720) (above (exactly (fajr_tenths m))) (pos 0) (omega (arith, ints)) (omega (arith, ints)) fajr)
    (one FajrEnd End (noon -ℤ pos 720) (below (horizon height)) (pos 0) (omega (arith, ints)) (omega (arith, ints)) sunrise)
    (one Dhuhr Start (noon -ℤ pos 360) Past (pos 0) (omega (arith, ints)) (omega (arith, ints)) past_in_range)
    (one AsrColumn Start noon (Shadow (shadow_factor a)) (pos 0) (omega (arith, ints)) (omega (arith, ints)) (shadow_in_range a))
    (one Maghrib Start noon (below (maghrib_range m height)) (pos 0) (omega (arith, ints)) (omega (arith, ints)) sunset)
    (one MaghribEnd End noon (above (isha_range m height)) (isha_shift m interval) (omega (arith, ints)) (omega (arith, ints)) dusk)
    (one Isha Start noon (below (isha_range m height)) (isha_shift m interval) (omega (arith, ints)) (omega (arith, ints)) night)

pub days_are_in_limits : DaysAreInLimits
days_are_in_limits m a day offset noon height interval is problems same k d inside =
    let seven : length problems ≡ 7 = sym (length-map problems row_of) ∙ ap length same in
    let P : List Row → Type 0 = λ list. IsInLimits (row_at list k) in
    let limits = subst P (sym same) (days_have_rows m a day offset noon height interval is k (omega (arith, seven, inside))).limits in
    subst IsInLimits (get_or-map row_of problems k d _ inside) limits
