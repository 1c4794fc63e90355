-- How a run ends that showed a covering.
use Rattle.std.proofs.Common.{◌≡◌, ℕ, List, length, Option, Some, None, Ok, Err, refl, sym, ap, subst, arith}
use Rattle.std.proofs.lemmas.List.{take_all}
use Rattle.source_sink.specs.Outside.{Adds}
use Rattle.outcome.proofs.Endings.{text_ending}
use Rattle.outcome.proofs.Streams.{written}
use Rattle.outcome.specs.Answer.{Answer, line_of, line_of_status}
use Rattle.outcome.specs.Endings.{EndsBy, IsRefusedBy, ending_of}
use Rattle.outcome.specs.Ends.{EndsAs}
use Rattle.outcome.specs.Streams.{Stream}
use Rattle.outcome.specs.Writing.{Writes}
use Rattle.outcome.specs.declared.ending.Ending.{Ending}
use Rattle.outcome.specs.declared.ending.Ending.TheVariants.{Plain, Refused}
use Rattle.outcome.specs.declared.status.Status.{Status}
use Rattle.outcome.specs.declared.status.Status.TheVariants.{CoverRefused}
use Rattle.outcome.specs.declared.stop.Stop.{Stop}
use Rattle.outcome.specs.declared.stop.Stop.TheVariants.{NoMemory as StopNoMemory, WriteFault as StopWriteFault}
use Rattle.order_rule.specs.Asked.{Asked}
use Rattle.order_table.specs.Table.{DayTable, days_undecided, front_text, table_text}
use Rattle.shown_table.specs.declared.bad.BadLine.{BadLine}
use Rattle.shown_table.specs.declared.bad.Shown.{Shown}
use Rattle.shown_table.specs.declared.bad.Shown.TheVariants.{Bad, Whole}
use Rattle.shown_table.specs.Came.{ShowsTable}
use Rattle.shown_table.specs.Shown.{answer_before, bad_text, shown_answer, shown_table, shown_text, text_before}

text_of : (o : Asked) (days : List DayTable) (bad : Option BadLine) → (answer_before o days bad).text ≡ text_before o days bad
text_of o days None = refl
text_of o days (Some bad) = refl

module _ (o : Asked) (lines : List ℕ) (source source' out out' : Stream) where
  -- the whole table was shown
  pub ended_whole : (u : ℕ) (ending : Ending) → ending ≡ ending_of (Ok u) → ShowsTable (shown_table o lines) (Ok (Whole u)) →
      Writes {X = Shown} (shown_text o lines) (Ok (Whole u)) out.faults out'.faults out.bytes out'.bytes →
      EndsBy (shown_answer o lines) ending source source' out out'
  unfolding shown_answer shown_text
  ended_whole u ending is shows w =
      let days = (shown_table o lines).days in
      let same : text_before o days (shown_table o lines).bad ≡ table_text o days = ap (text_before o days) shows.0 in
      subst (λ (e : Ending). EndsBy (answer_before o days (shown_table o lines).bad) e source source' out out') (sym is)
      (subst (λ (b : Option BadLine). EndsBy (answer_before o days b) (ending_of (Ok u)) source source' out out') (sym shows.0)
      (text_ending (table_text o days) (days_undecided days) (Ok u) source source' out out'
      (written (table_text o days) (text_before o days (shown_table o lines).bad) u out.faults out'.faults out.bytes out'.bytes same w.later w.whole) shows.1))

  -- it was not written whole
  stopped_by : (a : Answer) (stop : Stop) → Writes {X = Shown} a.text (Err stop) out.faults out'.faults out.bytes out'.bytes →
      EndsBy a (ending_of (Err stop)) source source' out out'
  unfolding EndsAs line_of line_of_status
  stopped_by a StopNoMemory w = record { ends = w.some refl; line = refl }
  stopped_by a StopWriteFault w = record { ends = w.part refl; line = refl }

  pub ended_early : (stop : Stop) (ending : Ending) → ending ≡ ending_of (Err stop) →
      Writes {X = Shown} (shown_text o lines) (Err stop) out.faults out'.faults out.bytes out'.bytes → EndsBy (shown_answer o lines) ending source source' out out'
  unfolding shown_answer shown_text
  ended_early stop ending is w =
      let days = (shown_table o lines).days in
      let bad = (shown_table o lines).bad in
      subst (λ (e : Ending). EndsBy (answer_before o days bad) e source source' out out') (sym is)
      (stopped_by (answer_before o days bad) stop
      (subst (λ (t : List ℕ). Writes {X = Shown} t (Err stop) out.faults out'.faults out.bytes out'.bytes) (sym (text_of o days bad)) w))

  -- a line is bad
  refused_by : (days : List DayTable) (bad : BadLine) (ending : Ending) → IsRefusedBy CoverRefused (bad_text bad) ending →
      Adds out.bytes out'.bytes (front_text o days) → EndsBy (answer_before o days (Some bad)) ending source source' out out'
  unfolding EndsAs line_of line_of_status
  refused_by days bad (Plain status) is added =
      subst (λ (s : Status). EndsBy (answer_before o days (Some bad)) (Plain s) source source' out out') (sym is)
      (record {
        ends = (length (front_text o days), subst (λ (t : List ℕ). Adds out.bytes out'.bytes t) (sym (take_all (length (front_text o days)) (front_text o days) (omega arith))) added);
        line = refl;
      })
  refused_by days bad (Refused status text) is added =
      subst (λ (s : Status). EndsBy (answer_before o days (Some bad)) (Refused s text) source source' out out') (sym is.0)
      (record { ends = (refl, added); line = is.1 })

  pub ended_bad : (bad : BadLine) (ending : Ending) → IsRefusedBy CoverRefused (bad_text bad) ending → ShowsTable (shown_table o lines) (Ok (Bad bad)) →
      Writes {X = Shown} (shown_text o lines) (Ok (Bad bad)) out.faults out'.faults out.bytes out'.bytes → EndsBy (shown_answer o lines) ending source source' out out'
  unfolding shown_answer shown_text
  ended_bad bad ending is shows w =
      let days = (shown_table o lines).days in
      subst (λ (b : Option BadLine). EndsBy (answer_before o days b) ending source source' out out') (sym shows)
      (refused_by days bad ending is (subst (λ (t : List ℕ). Adds out.bytes out'.bytes t) (ap (text_before o days) shows) w.whole))
