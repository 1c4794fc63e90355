-- The value of a cell by what quarters of one cell share: the sun, and the sine and the cosine of latitudes and of sidereal times.
use Rattle.fixed_interval.specs.Grid.{Ends, grid_sum}
use Rattle.trig_series.specs.Sine.{grid_sine}
use Rattle.solar_terms.specs.Sun.{SunTerms}
use Rattle.altitude_test.specs.Values.{altitude_by, meridian_by}
use Rattle.asr_test.specs.Asr.{asr_at_latitude}
use Rattle.method_table.specs.declared.problem.Kind.{Kind}
use Rattle.method_table.specs.declared.problem.Kind.TheVariants.{Above, Below, Past, Shadow}
use Rattle.cell_judge.specs.Conditions.{angles}

-- the value of a kind by the latitude φ and the sidereal time θ
unfoldable pub value_by : SunTerms → Kind → Ends → Ends → Ends → Ends → Ends
value_by s (Above low high) sin_φ cos_φ sin_θ cos_θ = grid_sum (altitude_by s sin_φ cos_φ sin_θ cos_θ) (grid_sine (angles low high))
value_by s (Below low high) sin_φ cos_φ sin_θ cos_θ = grid_sum (altitude_by s sin_φ cos_φ sin_θ cos_θ) (grid_sine (angles low high))
value_by s Past sin_φ cos_φ sin_θ cos_θ = meridian_by s sin_θ cos_θ
value_by s (Shadow factor) sin_φ cos_φ sin_θ cos_θ = asr_at_latitude s (altitude_by s sin_φ cos_φ sin_θ cos_θ) sin_φ cos_φ factor
