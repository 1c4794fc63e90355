-- The laws, of a run over bytes in memory.
use Rattle.std.proofs.Common.{◌≡◌, ◌⊎◌, inl, inr, ℕ, List, Some, sym, subst}
use Rattle.command_input.proofs.InputLemmas.{inputs_agree}
use Rattle.command_input.specs.Input.{Input, IsSpelled}
use Rattle.outcome.specs.Streams.{Streams}
use Rattle.outcome.specs.declared.status.Status.{Status}
use Rattle.outcome.specs.declared.status.Status.TheVariants.{Usage, OrderRefused, ReadFault, NoMemory, IcalRefused}
use Rattle.source_sink.specs.Outside.{Rose}
use Rattle.timetable.proofs.LawLemmas.{finished_runs_wrote_the_answer, orders_are_refused_for_cause, right_words_are_answered, tables_are_right, told_bytes_decide, usage_is_for_wrong_words, wrong_calendars_are_refused, wrong_orders_are_refused, wrong_words_are_refused}
use Rattle.timetable.specs.Answer.{wanted_by}
use Rattle.timetable.specs.Ended.{Ended}
use Rattle.timetable.specs.Laws.{IsACalendar, IsACovering, IsAnOrder, IsFinished, IsNoCalendar, IsNoOrder, IsRefused}
use Rattle.timetable.specs.Memory.{KeepsTheLaws}
use Rattle.command_words.specs.declared.command.Command.{Command}
use Rattle.command_words.specs.declared.command.Command.TheVariants.{Unknown}

-- the input of a run whose source told its bytes is that which they spell
input_told : {command : Command} {status : Status} {before after : Streams} (run : Ended command status before after) (bytes : List ℕ) →
    before.source.bytes ≡ Some bytes → (input : Input) → IsSpelled (wanted_by command) bytes input → run.input ≡ input
input_told {command = command} run bytes told input spelled =
    let P : List ℕ → Type 0 = λ b. IsSpelled (wanted_by command) b input in
    inputs_agree (wanted_by command) run.spelled.bytes run.input input run.spelled.spelled (subst P (run.spelled.told bytes told) spelled)

without_a_read_fault : (status refused : Status) (before after : Streams) → (Rose before.source.faults after.source.faults → ⊥) →
    (status ≡ refused) ⊎ ((status ≡ ReadFault) × Rose before.source.faults after.source.faults) ⊎ (status ≡ NoMemory) →
    (status ≡ refused) ⊎ (status ≡ NoMemory)
without_a_read_fault status refused before after no_read (inl is) = inl is
without_a_read_fault status refused before after no_read (inr (inl fault)) = absurd (no_read fault.1)
without_a_read_fault status refused before after no_read (inr (inr dry)) = inr dry

pub keeps_the_laws : (command : Command) (bytes : List ℕ) (status : Status) (before after : Streams) → Ended command status before after →
    before.source.bytes ≡ Some bytes → (Rose before.source.faults after.source.faults → ⊥) → (Rose before.out.faults after.out.faults → ⊥) →
    KeepsTheLaws command bytes status before after
keeps_the_laws command bytes status before after run told no_read no_write =
    let by_status : (s : Status) → status ≡ s → Ended command s before after =
    λ s is. subst (λ (t : Status). Ended command t before after) is run in
    let by_command : command ≡ Unknown → Ended Unknown status before after =
    λ is. subst (λ (it : Command). Ended it status before after) is run in
    record {
      usage = λ is. usage_is_for_wrong_words command before after (by_status Usage is);
      wrong_words = λ is. wrong_words_are_refused status before after (by_command is);
      refused = λ is input spelled.
          let refused = by_status OrderRefused is in
          subst (λ (i : Input). IsRefused command i before after) (input_told refused bytes told input spelled)
          (orders_are_refused_for_cause command before after refused);
      wrong_order = λ reads input spelled wrong.
          without_a_read_fault status OrderRefused before after no_read
          (wrong_orders_are_refused command status before after run reads
          (subst IsNoOrder (sym (input_told run bytes told input spelled)) wrong));
      wrong_calendar = λ reads input spelled wrong.
          without_a_read_fault status IcalRefused before after no_read
          (wrong_calendars_are_refused command status before after run reads
          (subst IsNoCalendar (sym (input_told run bytes told input spelled)) wrong));
      answered = λ known input spelled accepted shown listed.
          right_words_are_answered command status before after run known
          (λ reads. subst IsAnOrder (sym (input_told run bytes told input spelled)) (accepted reads))
          (λ reads. subst IsACovering (sym (input_told run bytes told input spelled)) (shown reads))
          (λ reads. subst IsACalendar (sym (input_told run bytes told input spelled)) (listed reads)) no_read no_write;
      finished = λ is input spelled.
          subst (λ (i : Input). IsFinished command status i before after) (input_told run bytes told input spelled)
          (finished_runs_wrote_the_answer command status before after run is);
      told = λ input spelled. told_bytes_decide command status before after bytes input run told spelled;
      right = λ o spelled. tables_are_right bytes o spelled.1;
    }
