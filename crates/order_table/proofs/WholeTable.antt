-- A table that is written: its head, its days and its last line, whoever searches the days.
use Rattle.std.proofs.Common.{◌≡◌, ℕ, ◌≤◌, List, [], ◌++◌, append_assoc, length, map, Option, Ok, Err, Result, refl, sym, ap, ◌∙◌, arith, subst}
use Rattle.std.specs.Prelude.{IfOk}
use Rattle.source_sink.proofs.Transfers.{adds_more}
use Rattle.outcome.proofs.Streams.{adds_nothing, stopped, then_writes}
use Rattle.outcome.specs.Writing.{Writes}
use Rattle.outcome.specs.declared.stop.Stop.{Stop}
use Rattle.order_rule.specs.Asked.{Asked, asked_of}
use Rattle.order_rule.specs.declared.order.Order.{Order}
use Rattle.year_table.specs.Lines.{end_line}
use Rattle.order_table.specs.Made.{searched}
use Rattle.order_table.specs.Ready.{IsReady}
use Rattle.order_table.specs.Table.{DayTable, days_text, days_undecided, head_of, table_text}
use Rattle.order_table.specs.Trees.{table_of, table_of_trees, undecided}
use Rattle.order_table.specs.declared.day.Day.{Day}
use Rattle.order_table.specs.declared.ready.Ready.{Ready}
use Rattle.order_table.proofs.DayLemmas.{days_made}
use Rattle.order_table.proofs.TableLemmas.{ready_is}

-- an order has at most a year's days
pub few_days : (o : Order) (r : Ready) → IsReady (asked_of o) r → (days : List Day) → days ≡ r.days.items → length days ≤ 366
few_days o r is days same =
    let made = days_made (asked_of o) r.days.items is.days o.one_each in
    let few = o.few_days in
    rw same (omega (arith, made, few))

-- what stands behind the head
behind_head : Asked → List ℕ
behind_head o = days_text (table_of_trees o) ++ end_line o.days (days_undecided (table_of_trees o))

table_is : (o : Asked) → table_of o ≡ head_of o ++ behind_head o
unfolding table_of behind_head
table_is o = append_assoc (head_of o) (days_text (table_of_trees o)) (end_line o.days (days_undecided (table_of_trees o)))

module _ (o : Asked) {out out' : ℕ} {old new : Option (List ℕ)} where
  -- the head was not written whole
  pub head_stopped : {X : Type 0} (e : Stop) → Writes {X = X} (head_of o) (Err e) out out' old new → Writes {X = ℕ} (table_of o) (Err e) out out' old new
  head_stopped {X = X} e w =
      stopped {X = X} {Y = ℕ} [] (head_of o) (behind_head o) (table_of o) e _ _ _ _ _ _ (table_is o) (adds_nothing _) (omega arith) w

module _ (o : Asked) (r : Ready) (is : IsReady o r) (days : List Day) (are_days : days ≡ r.days.items) where
  abbrev found : List DayTable
  found = map (searched r.sky.sun r.sky.district r.sky.root) days

  found_is : found ≡ table_of_trees o
  found_is = ap (map (searched r.sky.sun r.sky.district r.sky.root)) are_days ∙ ready_is o r is

  module _ {out out1 out2 : ℕ} {old mid new : Option (List ℕ)} (head : Writes {X = Ready} (head_of o) (Ok r) out out1 old mid) where
    -- the days were not written whole
    pub days_stopped : (e : Stop) → Writes {X = ℕ} (days_text found) (Err e) out1 out2 mid new → Writes {X = ℕ} (table_of o) (Err e) out out2 old new
    unfolding behind_head
    days_stopped e w =
        stopped {X = ℕ} {Y = ℕ} (head_of o) (days_text found) (end_line o.days (days_undecided (table_of_trees o))) (table_of o) e _ _ _ _ _ _
        (table_is o ∙ ap (λ ds. head_of o ++ (days_text ds ++ end_line o.days (days_undecided (table_of_trees o)))) (sym found_is)) head.whole head.later w

    -- what came of the last line
    pub table_written : (count : ℕ) → count ≡ days_undecided found → Writes {X = ℕ} (days_text found) (Ok count) out1 out2 mid new →
        (result : Result ℕ Stop) {out3 : ℕ} {newer : Option (List ℕ)} → Writes {X = ℕ} (end_line o.days count) result out2 out3 new newer →
        Writes {X = ℕ} (table_of o) result out out3 old newer
    unfolding table_of
    table_written count is_count written result end =
        let first = head.later in
        let second = written.later in
        then_writes {X = ℕ} (head_of o ++ days_text found) (end_line o.days count) (table_of o) result _ _ _ _ _ _
        (rw is_count (ap (table_text o) (sym found_is)))
        (adds_more _ _ _ (head_of o) (days_text found) (head_of o ++ days_text found) head.whole written.whole refl)
        (omega (arith, first, second)) end

  pub table_counted : (count : ℕ) → count ≡ days_undecided found → (result : Result ℕ Stop) → IfOk result (λ n. n ≡ count) → IfOk result (λ n. n ≡ undecided o)
  unfolding undecided
  table_counted count is_count result counted =
      subst (λ (m : ℕ). IfOk result (λ n. n ≡ m)) (is_count ∙ ap days_undecided found_is) counted
