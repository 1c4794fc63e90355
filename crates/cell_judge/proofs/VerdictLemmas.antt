-- The verdict by an enclosure, test by test.
use Rattle.std.proofs.Common.{◌≡◌, true, false}
use Rattle.fixed_interval.specs.Grid.{Ends}
use Rattle.method_table.specs.declared.problem.Kind.{Kind}
use Rattle.plane_edges.specs.declared.points.Point.{Point}
use Rattle.cell_split.specs.declared.cell.Cell.{Cell}
use Rattle.cell_split.specs.declared.verdict.Verdict.TheVariants.{Proved, Refuted, Split, Open}
use Rattle.cell_split.specs.Cells.{is_smallest}
use Rattle.cell_judge.specs.Skies.{shows_held, shows_failed, verdict_at}

module _ (kind : Kind) (e : Ends) (cell : Cell) (p : Point) where
  pub is_proved : shows_held kind e ≡ true → Proved ≡ verdict_at kind e cell p
  unfolding verdict_at
  is_proved held = rw held

  pub is_refuted : shows_held kind e ≡ false → shows_failed kind e ≡ true → Refuted p ≡ verdict_at kind e cell p
  unfolding verdict_at
  is_refuted held failed = rw (held, failed)

  pub is_open : shows_held kind e ≡ false → shows_failed kind e ≡ false → is_smallest cell ≡ true → Open p ≡ verdict_at kind e cell p
  unfolding verdict_at
  is_open held failed smallest = rw (held, failed, smallest)

  pub is_split : shows_held kind e ≡ false → shows_failed kind e ≡ false → is_smallest cell ≡ false → Split ≡ verdict_at kind e cell p
  unfolding verdict_at
  is_split held failed smallest = rw (held, failed, smallest)
