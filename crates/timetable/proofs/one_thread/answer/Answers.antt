use Rattle.std.proofs.Common.{ap, inl, inr, refl}
use Rattle.command_words.specs.Words.{without_workers}
use Rattle.command_words.specs.declared.command.Command.TheVariants.{Order, Plain}
use Rattle.timetable.proofs.AnswerLemmas.{agenda_answers, agenda_refuses, check_answers, check_refuses, read_answers, read_refuses, sun_answers, unknown_answers}
use Rattle.timetable.specs.Answer.{order_answer, table_answer}
use Rattle.timetable.proofs.one_thread.answer.Goals as goal

pub returns-in-Unknown : goal.returns-in-Unknown
returns-in-Unknown g c =
    unknown_answers _ _ _ _ (elim c.in-Unknown.is [
      | inl unknown ↦ ap without_workers unknown
      | inr more ↦ elim more [
        | inl table ↦ ap without_workers table.1
        | inr two ↦ elim two [
          | inl cover ↦ ap without_workers cover.2
          | inr three ↦ elim three [
            | inl demo ↦ ap without_workers demo.2
            | inr four ↦ elim four [ inl ical ↦ ap without_workers ical.1 | inr set ↦ ap without_workers set.1 ]
          ]
        ]
      ]
    ]) c.wrong_words.ensures

pub returns-in-Sun : goal.returns-in-Sun
returns-in-Sun g c =
    sun_answers _ c.in-Sun.request c.write_verdict.result _ _ _ _ (ap without_workers c.in-Sun.is) c.write_verdict.ensures.writes c.write_verdict.ensures.count
    c.ending_of.ensures

pub returns-in-Ok : goal.returns-in-Ok
returns-in-Ok g c =
    read_answers Order order_answer refl refl _ c.in-Ok.order _ _ c.write_line.result _ _ _ _ _ (ap without_workers c.in-Order.is) c.in-Ok.ensures refl
    c.write_line.ensures.writes c.write_line.ensures.count c.ending_of-in-Ok.ensures

pub returns-in-Err : goal.returns-in-Err
returns-in-Err g c = read_refuses Order order_answer refl refl _ _ _ _ _ (ap without_workers c.in-Order.is) c.in-Err.ensures

pub returns-in-Ok-order_from : goal.returns-in-Ok-order_from
returns-in-Ok-order_from g c =
    read_answers Plain table_answer refl refl _ c.in-Ok-order_from.order _ _ c.write_table.result _ _ _ _ _ (ap without_workers c.in-Plain.is) c.in-Ok-order_from.ensures refl
    c.write_table.ensures.writes c.write_table.ensures.count c.ending_of-in-Ok-order_from.ensures

pub returns-in-Err-order_from : goal.returns-in-Err-order_from
returns-in-Err-order_from g c = read_refuses Plain table_answer refl refl _ _ _ _ _ (ap without_workers c.in-Plain.is) c.in-Err-order_from.ensures

pub returns-in-Ok-covering_from : goal.returns-in-Ok-covering_from
returns-in-Ok-covering_from g c =
    check_answers _ c.in-Ok-covering_from.covering _ _ _ _ _ (ap without_workers c.in-Check.is) c.in-Ok-covering_from.ensures (c.show.ensures _ _)

pub returns-in-Err-covering_from : goal.returns-in-Err-covering_from
returns-in-Err-covering_from g c = check_refuses _ _ _ _ _ (ap without_workers c.in-Check.is) c.in-Err-covering_from.ensures

pub returns-in-Ok-calendar_from : goal.returns-in-Ok-calendar_from
returns-in-Ok-calendar_from g c =
    agenda_answers _ c.in-Ok-calendar_from.events c.write_agenda.result _ _ _ _ _ (ap without_workers c.in-Agenda.is) c.in-Ok-calendar_from.ensures.taken
    c.write_agenda.ensures.writes c.write_agenda.ensures.count c.ending_of-in-Ok-calendar_from.ensures

pub returns-in-Err-calendar_from : goal.returns-in-Err-calendar_from
returns-in-Err-calendar_from g c = agenda_refuses _ _ _ _ _ (ap without_workers c.in-Agenda.is) c.in-Err-calendar_from.ensures.taken
