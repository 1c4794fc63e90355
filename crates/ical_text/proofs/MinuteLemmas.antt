-- The minutes of a frame.
use Rattle.std.proofs.Common.{◌≡◌, ℕ, ◌≤◌, ℤ, pos, neg_ℤ, ◌+ℤ◌, ◌≤ℤ◌, arith}
use Rattle.std.proofs.lemmas.Int.{ints}
use Rattle.method_table.specs.declared.problem.Side.{Side}
use Rattle.method_table.specs.declared.problem.Side.TheVariants.{Start, End}
use Rattle.method_table.specs.Row.{minute_at}

pub minute_low : (side : Side) (first last : ℤ) (rank : ℕ) → rank ≤ 720 → neg_ℤ (pos 720) ≤ℤ first → last ≡ first +ℤ pos 720 → neg_ℤ (pos 720) ≤ℤ minute_at side first last rank
minute_low Start first last rank r low frame = omega (arith, ints)
minute_low End first last rank r low frame = omega (arith, ints)

pub minute_high : (side : Side) (first last : ℤ) (rank : ℕ) → rank ≤ 720 → first ≤ℤ pos 1439 → last ≡ first +ℤ pos 720 → minute_at side first last rank ≤ℤ pos 2159
minute_high Start first last rank r high frame = omega (arith, ints)
minute_high End first last rank r high frame = omega (arith, ints)
