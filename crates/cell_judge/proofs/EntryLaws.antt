-- The laws on entries.
use Rattle.std.proofs.Common.{◌≡◌, ℕ, ◌-◌, ◌<◌, ◌≤◌, Bool, true, false, refl, sym, ap, ◌∙◌, subst, arith}
use Rattle.std.specs.Prelude.{nat_lt}
use Rattle.std.proofs.lemmas.Bool.Decides.{nat_tests}
use Rattle.fixed_interval.specs.Grid.{enclosure_of_range}
use Rattle.fixed_interval.proofs.Inclusion.{range_ordered}
use Rattle.solar_terms.specs.SunLaws.{IsSunSource}
use Rattle.altitude_test.proofs.Verdicts.{altitude_is_one_sided, meridian_is_one_sided}
use Rattle.asr_test.proofs.AsrLaws.{asr_is_one_sided}
use Rattle.method_table.specs.declared.problem.Kind.{Kind}
use Rattle.method_table.specs.declared.problem.Kind.TheVariants.{Above, Below, Past, Shadow}
use Rattle.method_table.specs.Kind.{IsKind}
use Rattle.method_table.specs.Row.{time_of}
use Rattle.ring_survey.specs.Extent.{longitudes, latitudes, least}
use Rattle.cell_split.specs.declared.verdict.Entry.TheVariants.{Minute, Whole, Never, Open}
use Rattle.cell_split.specs.Judges.{Content, IsLawful, IsTask}
use Rattle.cell_split.specs.Cells.{IsCellOf, root_at}
use Rattle.cell_split.specs.Verdicts.{is_open}
use Rattle.cell_split.specs.Tree.{IsLeafOf, leaves, root_task, top}
use Rattle.cell_split.proofs.Every.{Every, Every-weaker, Every-both}
use Rattle.cell_split.proofs.LeafLemmas.{IsUnder, leaves_cover, leaves_in_tree, leaves_under, root_is_task}
use Rattle.cell_judge.specs.Conditions.{Holds, Fails, angles, value_at, spot_of}
use Rattle.cell_judge.specs.Scenes.{Scene, HoldsAt, FailsAt, IsTrueVerdict}
use Rattle.cell_judge.specs.RightEntries.{IsSafeFrom, FailsSomewhere}
use Rattle.cell_judge.specs.EntryLaws.{DistrictsLieInTheirRoot, TrueVerdictsMakeRightEntries, ConditionsAreOneSided, OneDecidedEntryIsRight, LiesInRoot, TellsTruth}
use Rattle.cell_judge.proofs.Entries.{IsTrueLeaf, AreCovering, entry_right}
use Rattle.cell_judge.proofs.ExtentLemmas.{districts_lie_in_roots_over_them, root_is_over}

-- ---- a district lies in its root

pub lies_in_root : DistrictsLieInTheirRoot
lies_in_root s no_fault =
    districts_lie_in_roots_over_them s (root_at (least (longitudes s.polygons)) (least (latitudes s.polygons))) no_fault (root_is_over s.polygons no_fault)

-- ---- true verdicts

-- the leaves of a judge whose verdicts are true
true_leaves : (c : Content) → IsLawful c → (k : ℕ) → k < c.problems → (s : Scene) → TellsTruth c k s → Every (IsTrueLeaf s c.root) (leaves c (root_task c k))
true_leaves c law k known s truth =
    let root = root_is_task c law k known in
    Every-weaker (λ l. IsUnder (root_task c k) l × IsLeafOf c l) (IsTrueLeaf s c.root) (leaves c (root_task c k))
    (λ l h.
    let cell : IsCellOf c.root l.task.cell = record { formed = h.0.formed; inside = h.0.inside } in
    let task : IsTask c l.task = record { known = subst (λ (n : ℕ). n < c.problems) (sym h.0.same) known; cell = cell } in
    record {
      of_root = cell;
      whole = h.1.whole;
      open_last = λ e. law.open_last l.task task (ap is_open (sym h.1.judged) ∙ e);
      is_true = subst (IsTrueVerdict s l.task.cell) (sym h.1.judged) (truth l.task task h.0.same);
    })
    (Every-both (IsUnder (root_task c k)) (IsLeafOf c) (leaves c (root_task c k)) (leaves_under c (root_task c k) root)
    (leaves_in_tree c (root_task c k) (top k known)))

covering_leaves : (c : Content) → IsLawful c → (k : ℕ) → k < c.problems → (s : Scene) → LiesInRoot s c.root → AreCovering s (leaves c (root_task c k))
covering_leaves c law k known s inside p place rank above last =
    let ranks = law.root in
    leaves_cover c law (root_task c k) (root_is_task c law k known) p rank
    (record { in_box = inside p place; from_first = omega (arith, ranks.first); to_last = omega (arith, ranks.last, last) })

pub true_verdicts_make_right_entries : TrueVerdictsMakeRightEntries
true_verdicts_make_right_entries c law k known s inside truth =
    entry_right s c.root (leaves c (root_task c k)) (true_leaves c law k known s truth) (covering_leaves c law k known s inside)

-- ---- one side

pub conditions_are_one_sided : ConditionsAreOneSided
unfolding HoldsAt FailsAt Holds Fails value_at
conditions_are_one_sided s source kind p rank holds fails = by s.row.kind kind holds fails where
  by : (k : Kind) → IsKind k → Holds s.sun k (time_of s.row rank) p → Fails s.sun k (time_of s.row rank) p → ⊥
  by (Above low high) kind holds fails =
      let range = kind.above low high refl in
      (altitude_is_one_sided s.sun source (time_of s.row rank) (spot_of p) (enclosure_of_range (angles low high))
      (range_ordered (angles low high) range.ordered)).one_sided holds fails
  by (Below low high) kind holds fails =
      let range = kind.below low high refl in
      (altitude_is_one_sided s.sun source (time_of s.row rank) (spot_of p) (enclosure_of_range (angles low high))
      (range_ordered (angles low high) range.ordered)).one_sided fails holds
  by Past kind holds fails = (meridian_is_one_sided s.sun source (time_of s.row rank) (spot_of p)).one_sided holds fails
  by (Shadow factor) kind holds fails = (asr_is_one_sided s.sun source (time_of s.row rank) (spot_of p) factor).one_sided holds fails

-- where every rank from one on is safe, no place fails at a later one
none_fails : (s : Scene) → IsSunSource s.sun → IsKind s.row.kind → (m n : ℕ) → m ≤ n → n ≤ 720 → IsSafeFrom s m → FailsSomewhere s n → ⊥
none_fails s source kind m n from last safe bad =
    conditions_are_one_sided s source kind bad.place n (safe.holds bad.place bad.is_place n from last) bad.fails

pub one_decided_entry_is_right : OneDecidedEntryIsRight
one_decided_entry_is_right s source kind root (Minute m) (Minute n) d e right right' =
    by (nat_lt m n) (nat_lt n m) refl refl
  where
    by : (t u : Bool) → nat_lt m n ≡ t → nat_lt n m ≡ u → Minute m ≡ Minute n
    by true u h k =
        let less : m < n = grind (arith, nat_tests, h) in let last = right'.in_frame in
        absurd (none_fails s source kind m (n - 1) (omega (arith, less)) (omega (arith, last)) right.safe right'.before)
    by false true h k =
        let less : n < m = grind (arith, nat_tests, k) in let last = right.in_frame in
        absurd (none_fails s source kind n (m - 1) (omega (arith, less)) (omega (arith, last)) right'.safe right.before)
    by false false h k = let same : m ≡ n = grind (arith, nat_tests, h, k) in ap Minute same
one_decided_entry_is_right s source kind root (Minute m) Whole d e right right' =
    let last = right.in_frame in absurd (none_fails s source kind 0 (m - 1) (omega arith) (omega (arith, last)) right' right.before)
one_decided_entry_is_right s source kind root (Minute m) Never d e right right' =
    absurd (none_fails s source kind m 720 right.in_frame (omega arith) right.safe right')
one_decided_entry_is_right s source kind root Whole (Minute n) d e right right' =
    let last = right'.in_frame in absurd (none_fails s source kind 0 (n - 1) (omega arith) (omega (arith, last)) right right'.before)
one_decided_entry_is_right s source kind root Whole Whole d e right right' = refl
one_decided_entry_is_right s source kind root Whole Never d e right right' =
    absurd (none_fails s source kind 0 720 (omega arith) (omega arith) right right')
one_decided_entry_is_right s source kind root Never (Minute n) d e right right' =
    absurd (none_fails s source kind n 720 right'.in_frame (omega arith) right'.safe right)
one_decided_entry_is_right s source kind root Never Whole d e right right' =
    absurd (none_fails s source kind 0 720 (omega arith) (omega arith) right' right)
one_decided_entry_is_right s source kind root Never Never d e right right' = refl
one_decided_entry_is_right s source kind root (Open safe from cell) f d e right right' = absurd d
one_decided_entry_is_right s source kind root e (Open safe from cell) d f right right' = absurd f
