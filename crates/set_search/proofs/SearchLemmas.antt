-- A search for a set finds each judge's own entries.
use Rattle.std.proofs.Common.{◌≡◌, ℕ, zero, suc, ◌+◌, ◌*◌, ◌<◌, ◌≤◌, List, [], ◌∷◌, ◌++◌, length, map, refl, sym, ap, ap₂, ◌∙◌, append-nil, length-append, arith, subst}
use Rattle.std.specs.List.{AllByRecursion as Every}
use Rattle.std.proofs.lemmas.List.{length-map, map-append}
use Rattle.std.proofs.lemmas.List.Elements.{All-from_recursion, All-nil, recursion_from_All}
use Rattle.cell_judge.specs.declared.sky.Sky.{Sky}
use Rattle.cell_judge.specs.Skies.{sky_content}
use Rattle.cell_split.specs.declared.cell.Cell.{Cell}
use Rattle.cell_split.specs.declared.verdict.Entry.{Entry}
use Rattle.cell_split.specs.Judges.{Content, IsLawful}
use Rattle.cell_split.proofs.Every.{Every-append, Every-weaker}
use Rattle.days_sky.specs.Days.{rows_of_day}
use Rattle.days_sky.specs.declared.day.Day as days_sky
use Rattle.days_sky.proofs.DayLemmas.{whole_days}
use Rattle.district_set.proofs.Lawful.{each}
use Rattle.district_set.specs.Sets.{AreAlike, IsAlike, judge_at, set_content}
use Rattle.district_set.proofs.SetLemmas.{own_trees}
use Rattle.method_table.specs.Row.{Row}
use Rattle.order_table.specs.Made.{rows_of}
use Rattle.order_table.specs.Trees.{entries_of, entry_at}
use Rattle.order_table.specs.declared.day.Day.{Day}
use Rattle.set_search.specs.Scopes.{HaveOneRoot, first_root}
use Rattle.set_search.specs.Searches.{entries_by, entries_on_days, entries_over, judge_over, judges_over}

-- problem 7 i + k of a set has the entry of problem k of judge i
pub own_entry : {J : Type 0} (content : J → Content) → ((j : J) → IsLawful (content j)) → (js : List J) → AreAlike (map content js) → (i k : ℕ) →
    i < length js → k < 7 → entry_at (set_content (map content js)) (7 * i + k) ≡ entry_at (judge_at (map content js) i) k
own_entry content lawful js alike i k within known =
    (own_trees (map content js) alike (All-from_recursion IsLawful (map content js) (each content lawful js)) i k
    (omega (arith, within, length-map js content)) known).same_entry

-- ---- the judges of a search

-- a judge of seven problems over this root
record IsOwn (root : Cell) (c : Content) : Type 0 where
  seven : c.problems ≡ 7
  root_is : c.root ≡ root

own_judges : (root : Cell) (rows : List Row) → length rows ≡ 7 → (skies : List Sky) → Every (λ sky. sky.root ≡ root) skies → Every (IsOwn root) (map (judge_over rows) skies)
own_judges root rows seven [] h = tt
own_judges root rows seven (sky ∷ rest) h = (
  record { seven = ap length (append-nil rows) ∙ seven; root_is = h.0 },
  own_judges root rows seven rest h.1,
)

all_own : (root : Cell) (skies : List Sky) → Every (λ sky. sky.root ≡ root) skies → (days : List (List Row)) → Every (λ rows. length rows ≡ 7) days →
    Every (IsOwn root) (judges_over skies days)
all_own root skies h [] whole = tt
all_own root skies h (rows ∷ days) whole =
    Every-append (IsOwn root) (map (judge_over rows) skies) (judges_over skies days) (own_judges root rows whole.0 skies h) (all_own root skies h days whole.1)

alike_over : (root : Cell) (judges : List Content) → Every (IsOwn root) judges → AreAlike judges
alike_over root [] own = All-nil (IsAlike [])
alike_over root (c ∷ cs) own =
    All-from_recursion (IsAlike (c ∷ cs)) (c ∷ cs)
    (Every-weaker (IsOwn root) (IsAlike (c ∷ cs)) (c ∷ cs) (λ d is. record { seven = is.seven; same_root = is.root_is ∙ sym own.0.root_is }) own)

-- those of days over skies with one root
pub alike : (skies : List Sky) (days : List (List Row)) → HaveOneRoot skies → Every (λ rows. length rows ≡ 7) days → AreAlike (judges_over skies days)
alike skies days one_root whole =
    alike_over (first_root skies) (judges_over skies days) (all_own (first_root skies) skies (recursion_from_All (λ sky. sky.root ≡ first_root skies) skies one_root) days whole)

pub count_of_judges : (skies : List Sky) (days : List (List Row)) → length (judges_over skies days) ≡ length days * length skies
count_of_judges skies [] = omega arith
count_of_judges skies (rows ∷ days) =
    let rest = count_of_judges skies days in
    omega (arith, rest, length-append (map (judge_over rows) skies) (judges_over skies days), length-map skies (judge_over rows))

-- ---- what is found

entries_of_judge : (rows : List Row) (sky : Sky) → entries_by (judge_over rows sky) ≡ entries_of sky.sun sky.district sky.root rows
unfolding entries_of
entries_of_judge rows sky = ap (λ (rs : List Row). entries_by (sky_content sky.sun sky.district rs sky.root)) (append-nil rows)

found_on_day : (rows : List Row) (skies : List Sky) → map entries_by (map (judge_over rows) skies) ≡ entries_over skies rows
found_on_day rows [] = refl
found_on_day rows (sky ∷ rest) = ap₂ (λ (e : List Entry) (es : List (List Entry)). e ∷ es) (entries_of_judge rows sky) (found_on_day rows rest)

pub found_on_days : (skies : List Sky) (days : List Day) → map entries_by (judges_over skies (map rows_of days)) ≡ entries_on_days skies days
found_on_days skies [] = refl
found_on_days skies (day ∷ days) =
    map-append entries_by (map (judge_over (rows_of day)) skies) (judges_over skies (map rows_of days))
    ∙ ap₂ (λ (x y : List (List Entry)). x ++ y) (found_on_day (rows_of day) skies) (found_on_days skies days)

-- the judges of a search for these days
pub record AreJudges (skies : List Sky) (days : List Day) (judges : List Content) : Type 0 where
  pub some : 1 ≤ length judges
  pub few : length judges ≤ 64
  pub alike : AreAlike judges
  pub found : map entries_by judges ≡ entries_on_days skies days

some_product : (m n : ℕ) → 1 ≤ m → 1 ≤ n → 1 ≤ m * n
some_product zero n h k = absurd (omega (arith, h))
some_product (suc m) n h k = omega (arith, k)

pub judges_are : (skies : List Sky) (days : List Day) (judged : List days_sky.Day) (judges : List Content) → HaveOneRoot skies → 1 ≤ length skies → 1 ≤ length days →
    length days * length skies ≤ 64 → map rows_of_day judged ≡ map rows_of days → judges ≡ judges_over skies (map rows_of_day judged) → AreJudges skies days judges
judges_are skies days judged judges one_root some some_days few same is =
    let count : length judges ≡ length days * length skies =
    ap length is ∙ count_of_judges skies (map rows_of_day judged) ∙ ap (λ (n : ℕ). n * length skies) (ap length same ∙ length-map days rows_of) in
    record {
      some = rw count (some_product (length days) (length skies) some_days some);
      few = rw count few;
      alike = subst AreAlike (sym is) (alike skies (map rows_of_day judged) one_root (whole_days judged));
      found = ap (map entries_by) (is ∙ ap (judges_over skies) same) ∙ found_on_days skies days;
    }
