-- Which of Meeus's lines rise and fall, and what each is over all minutes.
use Rattle.std.proofs.Common.{◌≡◌, pos, refl, arith}
use Rattle.std.proofs.lemmas.Int.{ints}
use Rattle.fixed_interval.specs.Fraction.{over, plus, negate, times, least, greatest, floor_at, ceil_at}
use Rattle.fixed_interval.specs.Grid.{Range, range_around}
use Rattle.meeus_terms.specs.Polynomials.{held, centuries, linear, quadratic, cubic, falling}
use Rattle.meeus_terms.specs.Meeus.{mean_longitude, mean_anomaly, node, first_coefficient, second_coefficient, mean_obliquity}
use Rattle.meeus_terms.proofs.LineLaws.{IsLine, limits, rising_line, falling_line}
use Rattle.meeus_terms.proofs.Monotony.{linear_falls, quadratic_rises, quadratic_falls, cubic_falls}

pub mean_longitude_line : IsLine mean_longitude
unfolding mean_longitude
mean_longitude_line = rising_line _ (record { rises = quadratic_rises _ _ _ (omega (arith, ints)) })

pub mean_anomaly_line : IsLine mean_anomaly
unfolding mean_anomaly
mean_anomaly_line = rising_line _ (record { rises = quadratic_rises _ _ _ (omega (arith, ints)) })

pub node_line : IsLine node
unfolding node
node_line = falling_line _ (record { falls = λ x y _ _. linear_falls _ _ (omega (arith, ints)) x y })

pub first_coefficient_line : IsLine first_coefficient
unfolding first_coefficient
first_coefficient_line = falling_line _ (record { falls = quadratic_falls _ _ _ (omega (arith, ints)) })

pub second_coefficient_line : IsLine second_coefficient
unfolding second_coefficient
second_coefficient_line = falling_line _ (record { falls = λ x y _ _. linear_falls _ _ (omega (arith, ints)) x y })

pub mean_obliquity_line : IsLine mean_obliquity
unfolding mean_obliquity
mean_obliquity_line = falling_line _ (record { falls = cubic_falls _ _ _ _ (omega (arith, ints)) })

-- ---- over all minutes

abbrev pub all_first_coefficients : Range
all_first_coefficients = record { lo = pos 274_999_011_742; hi = pos 276_402_239_121 }

abbrev pub all_second_coefficients : Range
all_second_coefficients = record { lo = pos 2_864_280_980; hi = pos 2_893_703_020 }

abbrev pub all_mean_obliquities : Range
all_mean_obliquities = record { lo = pos 3_373_363_866_407; hi = pos 3_377_151_925_303 }

pub first_coefficients : range_around (first_coefficient limits) ≡ all_first_coefficients
unfolding range_around first_coefficient falling quadratic linear centuries held least greatest plus times over negate floor_at ceil_at
first_coefficients = refl

pub second_coefficients : range_around (second_coefficient limits) ≡ all_second_coefficients
unfolding range_around second_coefficient falling linear centuries held least greatest plus times over negate floor_at ceil_at
second_coefficients = refl

pub mean_obliquities : range_around (mean_obliquity limits) ≡ all_mean_obliquities
unfolding range_around mean_obliquity falling cubic quadratic linear centuries held least greatest plus times over negate floor_at ceil_at
mean_obliquities = refl
