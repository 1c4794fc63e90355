-- The line of a request with its verdict.
use Rattle.std.specs.Prelude.{ℕ, decimal, List, [], ◌++◌, codes}
use Rattle.std.specs.Fmt.{signed_decimal}
use Rattle.method_table.specs.declared.sun.SunChoice.{SunChoice}
use Rattle.method_table.specs.declared.sun.SunChoice.TheVariants.{Usno, Meeus}
use Rattle.sun_verdict.specs.Decimals.{decimal_text}
use Rattle.sun_verdict.specs.Verdict.{verdict_of, word_of}
use Rattle.sun_verdict.specs.declared.request.Question.{Question}
use Rattle.sun_verdict.specs.declared.request.Question.TheVariants.{Altitude, Meridian, Shadow}
use Rattle.sun_verdict.specs.declared.request.Request.{Request}
use Rattle.sun_verdict.specs.declared.verdict.Verdict.{Verdict}
use Rattle.sun_verdict.specs.declared.verdict.Verdict.TheVariants.{Above, Below, Open}

unfoldable pub question_text : Question → List ℕ
question_text (Altitude angle) = codes "angle " ++ decimal_text angle
question_text Meridian = codes "meridian"
question_text (Shadow factor) = codes "asr " ++ decimal factor

-- a sun is named where it isn't the observatory's
abbrev pub sun_text : SunChoice → List ℕ
sun_text Usno = []
sun_text Meeus = codes " meeus"

unfoldable pub line_text : Request → Verdict → List ℕ
line_text r v =
    codes "minute " ++ (signed_decimal r.minute ++
    (codes " lon " ++ (decimal_text r.lon ++ (codes " lat " ++ (decimal_text r.lat ++
    (codes " " ++ (question_text r.question ++ (sun_text r.sun ++ (codes " " ++ (word_of r.question v ++ codes "\n"))))))))))

-- the line with the verdict on the request
unfoldable pub verdict_line : Request → List ℕ
verdict_line r = line_text r (verdict_of r)

abbrev pub open_count : Verdict → ℕ
open_count Above = 0
open_count Below = 0
open_count Open = 1

-- how many verdicts in that line are undecided
unfoldable pub undecided_in : Request → ℕ
undecided_in r = open_count (verdict_of r)
