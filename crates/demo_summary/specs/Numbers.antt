-- The numbers of a linear congruential generator, whose state is the number at first.
use Rattle.std.specs.Prelude.{ℕ, zero, suc, ◌+◌, ◌*◌, ◌/◌, ◌%◌}

abbrev pub next_state : ℕ → ℕ
next_state x = (1103515245 * x + 12345) % 2147483648

-- after so many steps
unfoldable pub state_at : ℕ → ℕ → ℕ
state_at number zero = number % 2147483648
state_at number (suc i) = next_state (state_at number i)

-- the upper bits of a state
abbrev pub drawn : ℕ → ℕ → ℕ
drawn number i = state_at number i / 65536
