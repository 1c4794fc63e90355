-- Ranges with equal ends are equal.
use Rattle.std.proofs.Common.{◌≡◌, ap, ◌∙◌, ℤ}
use Rattle.fixed_interval.specs.Grid.{Range}

pub same_range : (a b : Range) → a.lo ≡ b.lo → a.hi ≡ b.hi → a ≡ b
same_range a b low high = ap (λ (z : ℤ). record { lo = z; hi = a.hi }) low ∙ ap (λ (z : ℤ). record { lo = b.lo; hi = z }) high
