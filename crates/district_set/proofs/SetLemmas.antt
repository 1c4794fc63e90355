-- A set's trees are those of its judges.
use Rattle.std.proofs.Common.{◌≡◌, ℕ, ◌+◌, ◌*◌, ◌/◌, ◌%◌, ◌<◌, List, [], ◌∷◌, length, map, get_or, refl, ap, ap₂, sym, subst, arith}
use Rattle.std.proofs.lemmas.List.{get_or-map, length-map}
use Rattle.cell_split.specs.declared.cell.Cell.{Cell}
use Rattle.cell_split.specs.declared.cell.Task.{Task}
use Rattle.cell_split.specs.Cells.{IsCellOf}
use Rattle.cell_split.specs.Judges.{Content, IsTask}
use Rattle.cell_split.proofs.Renumbering.{renumbered_trees}
use Rattle.cell_split.specs.Split.{children_of}
use Rattle.cell_split.specs.Tree.{child_tasks, task_of}
use Rattle.district_set.specs.Sets.{AreAlike, SetsHaveTheirOwnTrees, judge_at, nobody, set_content}

pub own_trees : SetsHaveTheirOwnTrees
own_trees judges alike lawful i k inside known =
    let same_judge : (7 * i + k) / 7 ≡ i = omega arith in
    let same_problem : (7 * i + k) % 7 ≡ k = omega arith in
    renumbered_trees (set_content judges) (judge_at judges i) (lawful i nobody inside) (7 * i + k) k (record {
      same_root = sym (alike i nobody inside).same_root;
      same_verdicts = λ cell is. ap₂ (λ (m n : ℕ). (judge_at judges m).verdict (task_of n cell)) same_judge same_problem;
    })

-- a task of a set is one of the judge whose problem it is
pub asked : {J : Type 0} (content : J → Content) (js : List J) (t : Task) (j : J) → AreAlike (map content js) → IsTask (set_content (map content js)) t →
    IsTask (content (get_or js (t.problem / 7) j)) (task_of (t.problem % 7) t.cell)
asked content js t j alike is =
    let i = t.problem / 7 in
    let long = length-map js content in
    let inside : i < length js = omega (arith, long, is.known) in
    let like = alike i nobody (omega (arith, long, inside)) in
    let P : Content → Type 0 = λ c. IsTask c (task_of (t.problem % 7) t.cell) in
    subst P (get_or-map content js i j nobody inside) (record {
      known = (let seven = like.seven in omega (arith, seven));
      cell = subst (λ (root : Cell). IsCellOf root t.cell) (sym like.same_root) is.cell;
    })

-- the verdicts on cells, by number of the set and by the judge's own
same_verdicts : (judges : List Content) (c : Content) (p : ℕ) (cells : List Cell) → judge_at judges (p / 7) ≡ c →
    map c.verdict (map (task_of (p % 7)) cells) ≡ map (set_content judges).verdict (map (task_of p) cells)
same_verdicts judges c p [] same = refl
same_verdicts judges c p (cell ∷ cells) same =
    ap₂ (λ v vs. v ∷ vs) (ap (λ (d : Content). d.verdict (task_of (p % 7) cell)) (sym same)) (same_verdicts judges c p cells same)

pub quarters_asked : {J : Type 0} (content : J → Content) (js : List J) (t : Task) (j : J) → IsTask (set_content (map content js)) t →
    map (content (get_or js (t.problem / 7) j)).verdict (child_tasks (task_of (t.problem % 7) t.cell)) ≡ map (set_content (map content js)).verdict (child_tasks t)
quarters_asked content js t j is =
    let long = length-map js content in
    let inside : t.problem / 7 < length js = omega (arith, long, is.known) in
    same_verdicts (map content js) (content (get_or js (t.problem / 7) j)) t.problem (children_of t.cell) (get_or-map content js (t.problem / 7) j nobody inside)
