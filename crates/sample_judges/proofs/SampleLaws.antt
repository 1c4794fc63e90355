-- The sample judges keep the law of judges.
use Rattle.std.proofs.Common.{◌≡◌, ℕ, ◌-◌, ◌*◌, Bool, true, false, eqb, ltb, ◌&&◌, not, refl, arith}
use Rattle.std.specs.Prelude.{nat_le, nat_lt}
use Rattle.std.proofs.lemmas.Bool.{false≢true}
use Rattle.std.proofs.lemmas.Bool.Decides.{nat_tests}
use Rattle.plane_edges.specs.declared.points.Point.{Point}
use Rattle.cell_split.specs.declared.cell.Cell.{Cell}
use Rattle.cell_split.specs.Verdicts.{is_split, is_open}
use Rattle.cell_split.specs.Cells.{IsRoot, is_smallest}
use Rattle.cell_split.specs.Judges.{IsLawful}
use Rattle.sample_judges.specs.Samples.{first_of, is_corner, threshold, late, steps}

ends : (point : Point) (refuted proved outside last : Bool) → last ≡ true → is_split (first_of point refuted proved outside last) ≡ false
ends point true proved outside last e = refl
ends point false true outside last e = refl
ends point false false true last e = refl
ends point false false false true e = refl
ends point false false false false e = absurd (false≢true e)

opens : (point : Point) (refuted proved outside last : Bool) → is_open (first_of point refuted proved outside last) ≡ true → last ≡ true
opens point true proved outside last e = absurd (false≢true e)
opens point false true outside last e = absurd (false≢true e)
opens point false false true last e = absurd (false≢true e)
opens point false false false true e = refl
opens point false false false false e = absurd (false≢true e)

and_second : (a b : Bool) → (a && b) ≡ true → b ≡ true
and_second true b e = e
and_second false b e = absurd (false≢true e)

one_rank : (c : Cell) → is_smallest c ≡ true → ltb (c.last - c.first) 16 ≡ true
one_rank c e = let same = and_second (eqb c.size 4) (eqb c.first c.last) e in grind (arith, nat_tests)

first_rank : (c : Cell) (step : ℕ) → is_smallest c ≡ true → nat_lt c.last step ≡ false → nat_le step c.first ≡ true
first_rank c step e h = let same = and_second (eqb c.size 4) (eqb c.first c.last) e in grind (arith, nat_tests)

either : (point : Point) (refuted proved : Bool) → (refuted ≡ false → proved ≡ true) → is_split (first_of point refuted proved false false) ≡ false
either point true proved h = refl
either point false true h = refl
either point false false h = absurd (false≢true (h refl))

pub threshold_lawful : (root : Cell) (point : Point) → IsRoot root → IsLawful (threshold root point)
threshold_lawful root point is = record {
  root = is;
  ends = λ t task smallest. ends point (ltb t.cell.last 100) (ltb 100 t.cell.first) (not (is_corner root t.cell)) (is_smallest t.cell) smallest;
  open_last = λ t task open'. opens point (ltb t.cell.last 100) (ltb 100 t.cell.first) (not (is_corner root t.cell)) (is_smallest t.cell) open';
}

pub late_lawful : (root : Cell) (point : Point) → IsRoot root → IsLawful (late root point)
late_lawful root point is = record {
  root = is;
  ends = λ t task smallest. either point (ltb 359 t.cell.first) (ltb (t.cell.last - t.cell.first) 16) (λ _. one_rank t.cell smallest);
  open_last = λ t task open'. absurd (false≢true (opens point (ltb 359 t.cell.first) (ltb (t.cell.last - t.cell.first) 16) false false open'));
}

pub steps_lawful : (root : Cell) (point : Point) → IsRoot root → IsLawful (steps root point)
steps_lawful root point is = record {
  root = is;
  ends = λ t task smallest. either point (nat_lt t.cell.last (100 * t.problem)) (nat_le (100 * t.problem) t.cell.first) (first_rank t.cell (100 * t.problem) smallest);
  open_last = λ t task open'. absurd (false≢true (opens point (nat_lt t.cell.last (100 * t.problem)) (nat_le (100 * t.problem) t.cell.first) false false open'));
}
