-- The limits of a text: how many lists and tables stand inside each other, and how long a number is.
use Rattle.std.specs.Prelude.{ℕ, ◌-◌, max, Bool, true, nat_lt, nat_le}

pub record Limits : Type 0 where
  -- whether a list or a table may open inside this many others
  pub may_open : ℕ → Bool
  -- whether a number may reach from where so many bytes are left to where so many are
  pub may_reach : ℕ → ℕ → Bool

abbrev pub no_limits : Limits
no_limits = record { may_open = λ _. true; may_reach = λ _ _. true }

-- at most 64 lists and tables inside each other
abbrev pub depth_limit : Limits
depth_limit = record { may_open = λ depth. nat_lt depth 64; may_reach = λ _ _. true }

-- at most 64 bytes of one number, the last `after` bytes of the text left out
abbrev pub number_limit_before : ℕ → Limits
number_limit_before after = record { may_open = λ _. true; may_reach = λ start end. nat_le (start - max end after) 64 }

-- both
abbrev pub limits_before : ℕ → Limits
limits_before after = record { may_open = λ depth. nat_lt depth 64; may_reach = λ start end. nat_le (start - max end after) 64 }
