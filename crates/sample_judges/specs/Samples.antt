-- Judges by which the searches are tried.
use Rattle.std.specs.Prelude.{◌-◌, ◌*◌, nat_le, nat_lt, ◌&&◌, Bool, true, false, not}
use Rattle.std.specs.Ordering.{int_eq}
use Rattle.plane_edges.specs.declared.points.Point.{Point}
use Rattle.cell_split.specs.declared.cell.Cell.{Cell}
use Rattle.cell_split.specs.declared.verdict.Verdict.{Verdict}
use Rattle.cell_split.specs.declared.verdict.Verdict.TheVariants.{Outside, Proved, Refuted, Split, Open}
use Rattle.cell_split.specs.Cells.{is_smallest}
use Rattle.cell_split.specs.Judges.{Content}

-- the first that fits, and else split
abbrev pub first_of : Point → Bool → Bool → Bool → Bool → Verdict
first_of point true proved outside last = Refuted point
first_of point false true outside last = Proved
first_of point false false true last = Outside
first_of point false false false true = Open point
first_of point false false false false = Split

abbrev pub is_corner : Cell → Cell → Bool
is_corner root c = int_eq c.x root.x && int_eq c.y root.y

-- refuted up to rank 99, proved from rank 101 on, and open at rank 100 in the root's corner
abbrev pub threshold : Cell → Point → Content
threshold root point = record {
  problems = 1;
  root = root;
  verdict = λ t. first_of point (nat_lt t.cell.last 100) (nat_lt 100 t.cell.first) (not (is_corner root t.cell)) (is_smallest t.cell);
}

-- refuted from rank 360 on, and proved where there are at most 16 ranks
abbrev pub late : Cell → Point → Content
late root point = record {
  problems = 1;
  root = root;
  verdict = λ t. first_of point (nat_lt 359 t.cell.first) (nat_lt (t.cell.last - t.cell.first) 16) false false;
}

-- of problem k the ranks below 100 k are refuted, and the others proved
abbrev pub steps : Cell → Point → Content
steps root point = record {
  problems = 7;
  root = root;
  verdict = λ t. first_of point (nat_lt t.cell.last (100 * t.problem)) (nat_le (100 * t.problem) t.cell.first) false false;
}
