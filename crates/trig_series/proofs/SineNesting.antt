-- Sine and cosine at a greater depth lie in those at a lesser: at every depth a piece has at most 4/5 of a radian.
use Rattle.std.proofs.Common.{ℕ, suc, ℤ, pos, neg_ℤ, ◌+ℤ◌}
use Rattle.fixed_interval.specs.Fraction.{over, negate, plus, times, least, greatest}
use Rattle.fixed_interval.specs.Enclosure.{Enclosure, IsOrdered, LiesIn, product, divide_by, times_ratio}
use Rattle.fixed_interval.proofs.EnclosureLaws.{LiesIn_refl, LiesIn_trans, product_mono, times_ratio_mono, times_ratio_ordered}
use Rattle.trig_series.specs.Pi.{pi, machin, arctan_term, arctan_below, arctan_above}
use Rattle.trig_series.specs.Quarters.{eighth_turn, half_turn, piece}
use Rattle.trig_series.specs.Sine.{modulo_4, sine_beyond, sine, cosine}
use Rattle.trig_series.proofs.PiLaws.{pi_ordered, pi_nests, pi_within_first}
use Rattle.trig_series.proofs.ExactQuarters.{piece_ordered, piece_within, first_not_after_last, over_quarters_mono}
use Rattle.trig_series.proofs.SeriesLaws.{sine_series_mono, cosine_series_mono}
use Rattle.trig_series.proofs.SeriesNesting.{ball, square_limit, sine_series_nests, cosine_series_nests}
use Rattle.trig_series.proofs.SineLaws.{quarters_on_mono}

abbrev within_eighth : Enclosure
within_eighth = record { lo = over (neg_ℤ (pos eighth_turn)) 1; hi = over (pos eighth_turn) 1 }

-- a computation: an eighth of a turn at depth 0 has 4/5 of a radian
widest_within : LiesIn (times_ratio (pi 0) within_eighth half_turn) (ball (over (pos 4) 5))
unfolding ball times_ratio divide_by product pi machin arctan_term arctan_below arctan_above over negate plus times least greatest
widest_within = record { low = record { crossed = record { le = tt } }; high = record { crossed = record { le = tt } } }

-- and its square 16/25
square_within : LiesIn (product (ball (over (pos 4) 5)) (ball (over (pos 4) 5))) (ball square_limit)
unfolding ball product over negate times least greatest
square_within = record { low = record { crossed = record { le = tt } }; high = record { crossed = record { le = tt } } }

pub radians_within : (n : ℕ) (a : Enclosure) → IsOrdered a → LiesIn a within_eighth → LiesIn (times_ratio (pi n) a half_turn) (ball (over (pos 4) 5))
radians_within n a o h = LiesIn_trans _ _ _ (times_ratio_mono half_turn (pi n) a (pi 0) within_eighth (pi_ordered n) o (pi_within_first n) h) widest_within

square_of_radians : (n : ℕ) (a : Enclosure) → IsOrdered a → LiesIn a within_eighth → LiesIn (product (times_ratio (pi n) a half_turn) (times_ratio (pi n) a half_turn)) (ball square_limit)
square_of_radians n a o h =
    let x = times_ratio (pi n) a half_turn in
    let ordered = times_ratio_ordered half_turn (pi n) a in
    let within = radians_within n a o h in
    LiesIn_trans _ _ _ (product_mono x x _ _ ordered ordered within within) square_within

pub sine_beyond_nests : (n : ℕ) (c : ℤ) (a : Enclosure) → IsOrdered a → LiesIn a within_eighth → LiesIn (sine_beyond (suc n) c a) (sine_beyond n c a)
unfolding sine_beyond
sine_beyond_nests n c a o h =
    let x = times_ratio (pi n) a half_turn in
    let y = times_ratio (pi (suc n)) a half_turn in
    let finer = times_ratio_mono half_turn (pi (suc n)) a (pi n) a (pi_ordered (suc n)) o (pi_nests n) (LiesIn_refl a) in
    let small = square_of_radians n a o h in
    quarters_on_mono (modulo_4 c) _ _ _ _
    (LiesIn_trans _ _ _ (sine_series_mono (suc n) y x (times_ratio_ordered half_turn (pi (suc n)) a) finer) (sine_series_nests n x (times_ratio_ordered half_turn (pi n) a) small))
    (LiesIn_trans _ _ _ (cosine_series_mono (suc n) y x (times_ratio_ordered half_turn (pi (suc n)) a) finer) (cosine_series_nests n x small))

pub sine_nests : (n : ℕ) (a : Enclosure) → IsOrdered a → LiesIn (sine (suc n) a) (sine n a)
unfolding sine
sine_nests n a o = over_quarters_mono (λ c. sine_beyond (suc n) c (piece a c)) (λ c. sine_beyond n c (piece a c)) a a (first_not_after_last a.lo a.hi o.ordered) (LiesIn_refl a) (λ d s t. sine_beyond_nests n d (piece a d) (piece_ordered a d o s t) (piece_within a d))

pub cosine_nests : (n : ℕ) (a : Enclosure) → IsOrdered a → LiesIn (cosine (suc n) a) (cosine n a)
unfolding cosine
cosine_nests n a o = over_quarters_mono (λ c. sine_beyond (suc n) (c +ℤ pos 1) (piece a c)) (λ c. sine_beyond n (c +ℤ pos 1) (piece a c)) a a (first_not_after_last a.lo a.hi o.ordered) (LiesIn_refl a) (λ d s t. sine_beyond_nests n (d +ℤ pos 1) (piece a d) (piece_ordered a d o s t) (piece_within a d))
