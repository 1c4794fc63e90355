-- The rows of sunrise and sunset for one day.
use Rattle.std.specs.Prelude.{ℕ, ℤ, pos, ◌-ℤ◌, List, [], ◌∷◌}
use Rattle.method_table.specs.declared.problem.Column.TheVariants.{FajrEnd, Maghrib}
use Rattle.method_table.specs.declared.problem.Kind.{Kind}
use Rattle.method_table.specs.declared.problem.Side.TheVariants.{Start}
use Rattle.method_table.specs.Horizon.{horizon}
use Rattle.method_table.specs.Row.{Row, above, below, row}
use Rattle.method_table.specs.Table.{base_of}
use Rattle.cell_judge.specs.Skies.{row_at}

-- from when on the sun is above the horizon, up to noon, and from when on it is below it, up to midnight: the clock's offset and
-- the reference noon in minutes, the height in metres
abbrev pub night_rows : ℤ → ℤ → ℤ → ℕ → List Row
night_rows day offset noon height =
    let base = base_of day offset in
    row FajrEnd Start (noon -ℤ pos 720) base (above (horizon height)) (pos 0)
    ∷ row Maghrib Start noon base (below (horizon height)) (pos 0)
    ∷ []

-- both, repeated to fill seven places
abbrev pub repeated : List Row → List Row
repeated rows =
    let rise = row_at rows 0 in
    let set = row_at rows 1 in
    rise ∷ set ∷ rise ∷ set ∷ rise ∷ set ∷ rise ∷ []

-- the frame of a row, with the first minute from which on a condition holds sought
abbrev pub start_of : Row → Kind → Row
start_of p kind = record p { side = Start; kind = kind }
