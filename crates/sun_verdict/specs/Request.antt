-- The words of `sun MINUTE LON LAT WHAT [meeus]`: which words are right, and what they ask.
use Rattle.std.specs.Prelude.{ℕ, ◌==◌, ◌≤◌, if◌then◌else◌, List, [], ◌∷◌, slice_index, codes, bytes_eq, ℤ, pos, neg_ℤ, ◌≤ℤ◌, Option, Some, None, option_map}
use Rattle.method_table.specs.Sun.{sun_word}
use Rattle.method_table.specs.declared.sun.SunChoice.{SunChoice}
use Rattle.method_table.specs.declared.sun.SunChoice.TheVariants.{Usno, Meeus}
use Rattle.digit_text.specs.Digits.{digits_in}
use Rattle.digit_text.specs.Sign.{is_negative, with_sign, without_sign}
use Rattle.sun_verdict.specs.Decimals.{millionths_in, at_most}
use Rattle.sun_verdict.specs.declared.request.Question.{Question}
use Rattle.sun_verdict.specs.declared.request.Question.TheVariants.{Altitude, Meridian, Shadow}
use Rattle.sun_verdict.specs.declared.request.Request.{Request}

-- a minute since 2000-01-01 12:00 Universal Time: `0`, or it may be a `-` and digits of which the first is not 0
unfoldable pub minute_in : List ℕ → Option ℤ
minute_in word =
    if slice_index (without_sign word) 0 == 48 then (if bytes_eq word (codes "0") then Some (pos 0) else None)
    else option_map (with_sign (is_negative word)) (at_most 53_200_000 (digits_in 8 (without_sign word)))

-- a coordinate in microdegrees of at most this magnitude: it may be a `-`, and then a decimal
unfoldable pub coordinate_in : ℕ → List ℕ → Option ℤ
coordinate_in most word = option_map (with_sign (is_negative word)) (at_most most (millionths_in (without_sign word)))

-- an angle below the horizon in microdegrees, from 0 to 30 degrees
unfoldable pub angle_in : List ℕ → Option ℤ
angle_in word = option_map pos (at_most 30_000_000 (millionths_in word))

-- an angle, the meridian, or Asr by the factor 1 or 2
unfoldable pub question_in : List ℕ → Option Question
question_in word =
    if bytes_eq word (codes "meridian") then Some Meridian
    else (if bytes_eq word (codes "asr1") then Some (Shadow 1)
    else (if bytes_eq word (codes "asr2") then Some (Shadow 2)
    else option_map Altitude (angle_in word)))

abbrev pub request_of : SunChoice → Option ℤ → Option ℤ → Option ℤ → Option Question → Option Request
request_of sun (Some minute) (Some lon) (Some lat) (Some question) =
    Some (record { minute = minute; lon = lon; lat = lat; question = question; sun = sun })
request_of sun minute lon lat question = None

-- what four words ask of this sun
unfoldable pub asked_of : SunChoice → List ℕ → List ℕ → List ℕ → List ℕ → Option Request
asked_of sun minute lon lat what =
    request_of sun (minute_in minute) (coordinate_in 360_000_000 lon) (coordinate_in 65_000_000 lat) (question_in what)

-- what the words behind `sun` ask, if each is in its spelling and its range: of the observatory's sun, or with a last word of
-- Meeus's
unfoldable pub request_in : List (List ℕ) → Option Request
request_in (minute ∷ lon ∷ lat ∷ what ∷ []) = asked_of Usno minute lon lat what
request_in (minute ∷ lon ∷ lat ∷ what ∷ last ∷ []) =
    if bytes_eq last (sun_word Meeus) then asked_of Meeus minute lon lat what else None
request_in words = None

-- a number whose magnitude is at most this
pub record IsWithin (most : ℕ) (z : ℤ) : Type 0 where
  pub low : neg_ℤ (pos most) ≤ℤ z
  pub high : z ≤ℤ pos most

-- the ranges of a question
abbrev pub IsAsked : Question → Type 0
IsAsked (Altitude angle) = (pos 0 ≤ℤ angle) × (angle ≤ℤ pos 30_000_000)
IsAsked Meridian = Unit {0}
IsAsked (Shadow factor) = (1 ≤ factor) × (factor ≤ 2)

-- the ranges of a request
pub record IsInRange (r : Request) : Type 0 where
  pub minute : IsWithin 53_200_000 r.minute
  pub lon : IsWithin 360_000_000 r.lon
  pub lat : IsWithin 65_000_000 r.lat
  pub question : IsAsked r.question
