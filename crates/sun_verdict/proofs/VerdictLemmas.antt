-- What is known of a request's value.
use Rattle.std.proofs.Common.{◌≡◌, refl, subst, arith}
use Rattle.std.proofs.lemmas.Int.{ints}
use Rattle.std.specs.Prelude.{ℕ, ◌≤◌, ℤ, unsigned_abs}
use Rattle.fixed_interval.specs.Grid.{Ends, Range}
use Rattle.meeus_terms.specs.Suns.{grid_sun_of}
use Rattle.solar_terms.specs.Sun.{SunTerms}
use Rattle.altitude_test.specs.Values.{Box, grid_altitude_value}
use Rattle.sun_verdict.specs.Request.{IsAsked, IsWithin}
use Rattle.sun_verdict.specs.Verdict.{point, place_of, angle_of, value_at, value_of, side_of, verdict_of}
use Rattle.sun_verdict.specs.declared.request.Question.{Question}
use Rattle.sun_verdict.specs.declared.request.Question.TheVariants.{Altitude}
use Rattle.sun_verdict.specs.declared.request.Request.{Request}

-- the verdict is that of the enclosure over the one minute and the one place
pub verdict_is : (r : Request) (e : Ends) (m : Range) (p : Box) →
    e ≡ value_at (grid_sun_of r.sun) r.question m p → m ≡ point r.minute → p ≡ place_of r.lon r.lat → side_of e ≡ verdict_of r
unfolding value_of verdict_of
verdict_is r e m p is_value is_minute is_place = rw (is_value, is_minute, is_place) refl

-- the enclosure of an altitude over some minutes and places
pub altitude_is : (grid : Range → SunTerms) (q : Question) (angle : ℤ) (e : Ends) (s : SunTerms) (m : Range) (p : Box) (a : Range) → q ≡ Altitude angle →
    e ≡ grid_altitude_value s m p a → s ≡ grid m → a ≡ angle_of angle → e ≡ value_at grid q m p
unfolding value_at
altitude_is grid q angle e s m p a is_question is_value is_sun is_angle = rw (is_question, is_value, is_sun, is_angle) refl

-- an angle that is asked for is within 30 degrees
pub asked_within : (q : Question) (angle : ℤ) → q ≡ Altitude angle → IsAsked q → IsWithin 30_000_000 angle
asked_within q angle is_question asked =
    let range : IsAsked (Altitude angle) = subst IsAsked is_question asked in
    record { low = omega (arith, ints, range.0); high = range.1 }

-- a number is at most as large as it is allowed to be
pub small_within : (most : ℕ) (z : ℤ) → IsWithin most z → unsigned_abs z ≤ most
small_within most z within = omega (arith, ints, within.low, within.high)
