-- Sunrise and sunset: the sun is 0.833 degrees below the horizon, and from a height of h metres 0.0347·√h degrees more.
use Rattle.std.specs.Prelude.{ℕ, zero, suc, ◌+◌, ◌*◌, ℤ, pos, nat_le, ◌==◌, if◌then◌else◌}

-- 0.833 degrees in angle units
abbrev pub SUNSET : ℕ
SUNSET = 119952000000

-- the square of 0.0347 degrees in angle units
abbrev pub DIP_SQUARED : ℕ
DIP_SQUARED = 24968010240000000000

-- the greatest number, from k down, whose square is at most n
unfoldable pub root_from : ℕ → ℕ → ℕ
root_from n zero = 0
root_from n (suc k) = if nat_le (suc k * suc k) n then suc k else root_from n k

-- the floor of the square root of n
unfoldable pub floor_root : ℕ → ℕ
floor_root n = root_from n n

-- the least range of whole angle units that holds SUNSET + √n
abbrev pub sunset_range : ℕ → ℤ × ℤ
sunset_range n =
    (pos (SUNSET + floor_root n), pos (SUNSET + floor_root n + (if floor_root n * floor_root n == n then 0 else 1)))

-- sunrise and sunset as seen from a height in metres
abbrev pub horizon : ℕ → ℤ × ℤ
horizon height = sunset_range (DIP_SQUARED * height)
