-- What words ask of the sun is in its range.
use Rattle.std.proofs.Common.{◌≡◌, ℕ, ◌≤◌, Bool, true, false, cond, List, [], ◌∷◌, Option, Some, None, codes, refl, arith}
use Rattle.std.specs.Prelude.{ℤ, pos, ◌≤ℤ◌, IfSome, ◌==◌, bytes_eq, nat_le, option_map, slice_index}
use Rattle.std.proofs.lemmas.Bool.{leb-true}
use Rattle.std.proofs.lemmas.Int.{ints}
use Rattle.method_table.specs.declared.sun.SunChoice.{SunChoice}
use Rattle.method_table.specs.declared.sun.SunChoice.TheVariants.{Usno, Meeus}
use Rattle.method_table.specs.Sun.{sun_word}
use Rattle.digit_text.specs.Digits.{digits_in}
use Rattle.digit_text.specs.Sign.{is_negative, with_sign, without_sign}
use Rattle.sun_verdict.specs.Decimals.{at_most, millionths_in}
use Rattle.sun_verdict.specs.Request.{IsAsked, IsInRange, IsWithin, angle_in, coordinate_in, asked_of, minute_in, question_in, request_in, request_of}
use Rattle.sun_verdict.specs.declared.request.Question.{Question}
use Rattle.sun_verdict.specs.declared.request.Question.TheVariants.{Altitude, Meridian, Shadow}

either : {A : Type 0} (P : A → Type 0) (test : Bool) (x y : Option A) → IfSome x P → IfSome y P → IfSome (cond test x y) P
either P true x y h k = h
either P false x y h k = k

held : {A : Type 0} (P : A → Type 0) (f : ℕ → A) (most : ℕ) (o : Option ℕ) → ((n : ℕ) → n ≤ most → P (f n)) → IfSome (option_map f (at_most most o)) P
held P f most None each = tt
held {A} P f most (Some n) each = by (nat_le n most) refl where
  by : (test : Bool) → nat_le n most ≡ test → IfSome (option_map f (cond test (Some n) None)) P
  by true few = each n (leb-true n most few)
  by false many = tt

signed : (most : ℕ) (negative : Bool) (n : ℕ) → n ≤ most → IsWithin most (with_sign negative n)
signed most true n few = record { low = omega (arith, ints, few); high = omega (arith, ints, few) }
signed most false n few = record { low = omega (arith, ints, few); high = omega (arith, ints, few) }

minute_within : (word : List ℕ) → IfSome (minute_in word) (IsWithin 53_200_000)
unfolding minute_in
minute_within word =
    let zero = cond (bytes_eq word (codes "0")) (Some (pos 0)) None in
    let number = option_map (with_sign (is_negative word)) (at_most 53_200_000 (digits_in 8 (without_sign word))) in
    either (IsWithin 53_200_000) (slice_index (without_sign word) 0 == 48) zero number
    (either (IsWithin 53_200_000) (bytes_eq word (codes "0")) (Some (pos 0)) None (signed 53_200_000 false 0 (omega arith)) tt)
    (held (IsWithin 53_200_000) (with_sign (is_negative word)) 53_200_000 (digits_in 8 (without_sign word)) (signed 53_200_000 (is_negative word)))

coordinate_within : (most : ℕ) (word : List ℕ) → IfSome (coordinate_in most word) (IsWithin most)
unfolding coordinate_in
coordinate_within most word = held (IsWithin most) (with_sign (is_negative word)) most (millionths_in (without_sign word)) (signed most (is_negative word))

altitude_asked : (o : Option ℤ) → IfSome o (λ a. (pos 0 ≤ℤ a) × (a ≤ℤ pos 30_000_000)) → IfSome (option_map Altitude o) IsAsked
altitude_asked None h = tt
altitude_asked (Some a) h = h

question_asked : (word : List ℕ) → IfSome (question_in word) IsAsked
unfolding question_in angle_in
question_asked word =
    let is_word : List ℕ → Bool = bytes_eq word in
    let angle = option_map pos (at_most 30_000_000 (millionths_in word)) in
    let altitude = option_map Altitude angle in
    let second = cond (is_word (codes "asr2")) (Some (Shadow 2)) altitude in
    let first = cond (is_word (codes "asr1")) (Some (Shadow 1)) second in
    either IsAsked (is_word (codes "meridian")) (Some Meridian) first tt (either IsAsked (is_word (codes "asr1")) (Some (Shadow 1)) second (omega arith, omega arith)
    (either IsAsked (is_word (codes "asr2")) (Some (Shadow 2)) altitude (omega arith, omega arith)
    (altitude_asked angle (held (λ (a : ℤ). (pos 0 ≤ℤ a) × (a ≤ℤ pos 30_000_000)) pos 30_000_000 (millionths_in word)
    (λ n few. (omega (arith, ints), omega (arith, ints, few)))))))

request_within : (sun : SunChoice) (minute lon lat : Option ℤ) (question : Option Question) → IfSome minute (IsWithin 53_200_000) → IfSome lon (IsWithin 360_000_000) →
    IfSome lat (IsWithin 65_000_000) → IfSome question IsAsked → IfSome (request_of sun minute lon lat question) IsInRange
request_within sun None lon lat question m x y q = tt
request_within sun (Some minute) None lat question m x y q = tt
request_within sun (Some minute) (Some lon) None question m x y q = tt
request_within sun (Some minute) (Some lon) (Some lat) None m x y q = tt
request_within sun (Some minute) (Some lon) (Some lat) (Some question) m x y q = record { minute = m; lon = x; lat = y; question = q }

asked_in_range : (sun : SunChoice) (a b c d : List ℕ) → IfSome (asked_of sun a b c d) IsInRange
unfolding asked_of
asked_in_range sun a b c d =
    request_within sun (minute_in a) (coordinate_in 360_000_000 b) (coordinate_in 65_000_000 c) (question_in d) (minute_within a) (coordinate_within 360_000_000 b) (coordinate_within 65_000_000 c) (question_asked d)

-- the ranges of what words ask
pub requests_are_in_range : (words : List (List ℕ)) → IfSome (request_in words) IsInRange
unfolding request_in
requests_are_in_range [] = tt
requests_are_in_range (a ∷ []) = tt
requests_are_in_range (a ∷ b ∷ []) = tt
requests_are_in_range (a ∷ b ∷ c ∷ []) = tt
requests_are_in_range (a ∷ b ∷ c ∷ d ∷ []) = asked_in_range Usno a b c d
requests_are_in_range (a ∷ b ∷ c ∷ d ∷ e ∷ []) =
    either IsInRange (bytes_eq e (sun_word Meeus)) (asked_of Meeus a b c d) None (asked_in_range Meeus a b c d) tt
requests_are_in_range (a ∷ b ∷ c ∷ d ∷ e ∷ f ∷ rest) = tt
