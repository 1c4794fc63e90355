-- What is made ready for a set's table, and the table in pieces.
use Rattle.std.proofs.Common.{◌≡◌, ℕ, ◌-◌, List, [], ◌∷◌, ◌++◌, length, map, take, drop, refl, sym, ap, ap₂, ◌∙◌, append_assoc, length-append, arith}
use Rattle.std.proofs.lemmas.Simd.{map-map}
use Rattle.cell_judge.specs.declared.sky.Sky.{Sky}
use Rattle.cell_split.specs.declared.cell.Cell.{Cell}
use Rattle.cell_split.specs.declared.verdict.Entry.{Entry}
use Rattle.method_table.specs.Row.{Row, row_of}
use Rattle.order_table.specs.Made.{day_of}
use Rattle.order_table.specs.Trees.{entries_of, root_over}
use Rattle.order_table.specs.declared.day.Day.{Day}
use Rattle.ring_survey.specs.Polygons.{Polygon}
use Rattle.set_reader.specs.Asked.{SetAsked}
use Rattle.method_table.specs.declared.sun.SunChoice.{SunChoice}
use Rattle.set_search.specs.Scopes.{Scope, scope_of, scope_over}
use Rattle.set_search.specs.Searches.{entries_over}
use Rattle.set_table.specs.Made.{searched}
use Rattle.set_table.specs.Ready.{IsReady, found_in, front_of}
use Rattle.set_table.specs.Table.{SetDay, set_day, set_days_undecided, set_end_line, set_text}
use Rattle.set_table.specs.Trees.{entries_in, set_of_trees, table_of, tree_set_day, undecided}
use Rattle.set_table.specs.declared.ready.Ready.{Ready}

-- ---- skies over the districts of a set

module _ (sun : SunChoice) (root : Cell) (skies : List Sky) (parts : List (List Polygon)) (are : map scope_of skies ≡ map (scope_over sun root) parts) where
  abbrev found_over : List Row → Scope → List Entry
  found_over rows scope = entries_of scope.sun scope.polygons scope.root rows

  -- they find the districts' entries
  entries_are : (rows : List Row) → entries_over skies rows ≡ entries_in sun parts root rows
  entries_are rows =
      sym (map-map (found_over rows) scope_of skies) ∙ ap (map (found_over rows)) are ∙ map-map (found_over rows) (scope_over sun root) parts

  searched_all : (days : List Day) → map (searched skies) days ≡ map (tree_set_day sun parts root) (map day_of days)
  unfolding searched
  searched_all [] = refl
  searched_all (day ∷ rest) =
      ap₂ (λ (d : SetDay) (ds : List SetDay). d ∷ ds) (ap (set_day (day_of day)) (entries_are (map row_of day.problems))) (searched_all rest)

-- ---- the whole table

pub ready_is : (s : SetAsked) (r : Ready) → IsReady s r → found_in r ≡ set_of_trees s
unfolding set_of_trees
ready_is s r is =
    searched_all s.whole.sun (root_over s.whole.district) r.skies.items s.parts is.skies r.days.items
    ∙ ap (map (tree_set_day s.whole.sun s.parts (root_over s.whole.district))) is.days

pub table_is : (s : SetAsked) (r : Ready) (count : ℕ) (end : List ℕ) → IsReady s r → count ≡ set_days_undecided (found_in r) →
    end ≡ set_end_line s.whole.days (length s.parts) count → table_of s ≡ front_of r ++ end
unfolding table_of
table_is s r count end is is_count is_end = rw (is_end, is_count, is.head) (ap (set_text s) (sym (ready_is s r is)))

pub count_is : (s : SetAsked) (r : Ready) (count : ℕ) → IsReady s r → count ≡ set_days_undecided (found_in r) → count ≡ undecided s
unfolding undecided
count_is s r count is is_count = is_count ∙ ap set_days_undecided (ready_is s r is)

-- ---- the order's line in a table's head

after : (a b : List ℕ) (n : ℕ) → n ≡ length a → drop n (a ++ b) ≡ b
after [] b n same = rw same refl
after (x ∷ a) b n same = rw same (after a b (length a) refl)

before : (a b : List ℕ) (n : ℕ) → n ≡ length a → take n (a ++ b) ≡ a
before [] b n same = rw same refl
before (x ∷ a) b n same = rw same (ap (λ (xs : List ℕ). x ∷ xs) (before a b (length a) refl))

-- what stands between the first piece of a text and its last one
pub between : (a x y z b text : List ℕ) (from end : ℕ) → text ≡ a ++ x ++ y ++ z ++ b → from ≡ length a → end ≡ length text - length b →
    take (end - from) (drop from text) ≡ x ++ y ++ z
between a x y z b text from end is is_from is_end =
    let m = x ++ y ++ z in
    let joined : a ++ x ++ y ++ z ≡ a ++ m = ap (λ (t : List ℕ). t ++ z) (append_assoc a x y) ∙ append_assoc a (x ++ y) z in
    let whole : text ≡ a ++ (m ++ b) = is ∙ ap (λ (t : List ℕ). t ++ b) joined ∙ append_assoc a m b in
    let long : end - from ≡ length m = omega (arith, is_from, is_end, ap length whole, length-append a (m ++ b), length-append m b) in
    ap (λ (t : List ℕ). take (end - from) (drop from t)) whole ∙ ap (take (end - from)) (after a (m ++ b) from is_from) ∙ before m b (end - from) long
