-- The refuted leaf that is named for a tree.
use Rattle.std.specs.Prelude.{ℕ, ◌==◌, ◌&&◌, List, Option, Some, None, find, ℤ, pos, ◌-ℤ◌}
use Rattle.std.specs.Option.{option_and_then, option_map}
use Rattle.plane_edges.specs.declared.points.Point.{Point}
use Rattle.cell_split.specs.declared.cell.Cell.{Cell}
use Rattle.cell_split.specs.declared.verdict.Leaf.{Leaf}
use Rattle.cell_split.specs.declared.verdict.Verdict.{Verdict}
use Rattle.cell_split.specs.declared.verdict.Verdict.TheVariants.{Refuted}
use Rattle.cell_split.specs.Entries.{last_ordinal}
use Rattle.cell_split.specs.Verdicts.{is_refuted}

-- the place where the condition fails
abbrev pub refuting_point : Verdict → Option Point
refuting_point (Refuted p) = Some p
refuting_point _ = None

-- the cell, with that place
abbrev pub refuted_at : Leaf → Option (Cell × Point)
refuted_at l = option_map (λ p. (l.task.cell, p)) (refuting_point l.verdict)

-- the first refuted leaf whose last rank is that of this ordinal
abbrev pub first_refuted : ℕ → List Leaf → Option (Cell × Point)
first_refuted ordinal ls =
    option_and_then refuted_at (find (λ l. is_refuted l.verdict && (last_ordinal l == ordinal)) ls)

-- the rank of an ordinal, -1 for none
abbrev pub rank_of : ℕ → ℤ
rank_of ordinal = pos ordinal -ℤ pos 1
