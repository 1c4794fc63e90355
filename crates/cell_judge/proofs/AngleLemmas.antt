-- The angles of a kind fit the code's numbers.
use Rattle.std.proofs.Common.{FitsSigned, w64, arith, ℤ}
use Rattle.std.proofs.lemmas.Int.{ints, fits_signed_from_abs}
use Rattle.method_table.specs.Kind.{IsAngleRange}

pub low_fits : (low high : ℤ) → IsAngleRange low high → FitsSigned w64 low
low_fits low high h = fits_signed_from_abs w64 low (omega (arith, ints))

pub high_fits : (low high : ℤ) → IsAngleRange low high → FitsSigned w64 high
high_fits low high h = fits_signed_from_abs w64 high (omega (arith, ints))
