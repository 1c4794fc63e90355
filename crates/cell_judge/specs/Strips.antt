-- In which strip of a root's height latitudes lie.
use Rattle.std.specs.Prelude.{ℕ, ◌*◌, ◌^◌, ◌<◌, ℤ, pos, ◌+ℤ◌, ◌≤ℤ◌}
use Rattle.region.specs.Strips.{top_of}

-- the latitudes from low to high lie in the strip of this number, of 64 that stand one on another from south on
pub record IsInStrip (south low high : ℤ) (number : ℕ) : Type 0 where
  pub known : number < 64
  pub not_below : (south +ℤ pos (number * 2 ^ 23)) ≤ℤ low
  pub not_above : high ≤ℤ top_of (south +ℤ pos (number * 2 ^ 23))
