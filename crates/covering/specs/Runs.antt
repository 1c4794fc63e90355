-- The letters in runs.
use Rattle.std.specs.Prelude.{ℕ, ◌+◌, ◌==◌, if◌then◌else◌, List, [], ◌∷◌, ◌++◌, flat_map, decimal}

-- so many equal letters before the runs: they join the first one where it is of that letter
abbrev pub with_run : ℕ → ℕ → List (ℕ × ℕ) → List (ℕ × ℕ)
with_run n letter [] = (n, letter) ∷ []
with_run n letter (run ∷ runs) =
    if letter == run.1 then (n + run.0, letter) ∷ runs else (n, letter) ∷ run ∷ runs

-- how many equal letters, and which, for each longest run of them
abbrev pub runs_in : List ℕ → List (ℕ × ℕ)
runs_in [] = []
runs_in (letter ∷ letters) = with_run 1 letter (runs_in letters)

-- the number where it is above 1, and the letter
abbrev pub run_text : ℕ × ℕ → List ℕ
run_text run = (if run.0 == 1 then [] else decimal run.0) ++ run.1 ∷ []

abbrev pub runs_text : List ℕ → List ℕ
runs_text letters = flat_map run_text (runs_in letters)
