-- Runs of the machine over bytes, and those that pass no limit.
use Rattle.std.specs.Prelude.{ℕ, Bool, true, cond, List, [], ◌∷◌, Option, Some, None, option_and_then, length, nat_lt, nat_le}
use Rattle.json_value.specs.Machine.{State, first_item, first_name, numeral, step}

abbrev pub run : State → List ℕ → Option State
run m [] = Some m
run m (b ∷ bs) = option_and_then (λ n. run n bs) (step m b)

-- no limit is passed: 64 lists and tables inside each other, and 64 bytes of a number
abbrev pub is_within : State → Bool
is_within (first_item frames) = nat_lt (length frames) 64
is_within (first_name frames) = nat_lt (length frames) 64
is_within (numeral phase n frames) = nat_le n.length 64
is_within _ = true

-- a run that passes no limit
abbrev pub run_within : State → List ℕ → Option State
run_within m [] = Some m
run_within m (b ∷ bs) = option_and_then (λ n. cond (is_within n) (run_within n bs) None) (step m b)
