use Rattle.std.proofs.Common.{refl}
use Rattle.command_words.specs.declared.command.Command.TheVariants.{Cover, Ical, Table}
use Rattle.timetable.proofs.AnswerLemmas.{demo_answers, read_answers, read_refuses, set_answers, set_refuses}
use Rattle.timetable.specs.Answer.{calendar_answer, covering_answer, table_answer}
use Rattle.timetable.proofs.top_calls.answer.Goals as goal

pub returns-in-Ok : goal.returns-in-Ok
returns-in-Ok g c =
    read_answers (Table c.in-Table.workers) table_answer refl refl _ c.in-Ok.order _ _ c.write_table.result _ _ _ _ _ c.in-Table.is c.in-Ok.ensures refl
    c.write_table.ensures.writes c.write_table.ensures.count c.ending_of.ensures

pub returns-in-Err : goal.returns-in-Err
returns-in-Err g c = read_refuses (Table c.in-Table.workers) table_answer refl refl _ _ _ _ _ c.in-Table.is c.in-Err.ensures

pub returns-in-Ok-order_from : goal.returns-in-Ok-order_from
returns-in-Ok-order_from g c =
    read_answers (Cover c.in-Cover.workers c.in-Cover.form) (covering_answer c.in-Cover.form) refl refl _ c.in-Ok-order_from.order _ _ c.write_covering.result
    _ _ _ _ _ c.in-Cover.is c.in-Ok-order_from.ensures refl c.write_covering.ensures.writes c.write_covering.ensures.count c.ending_of-in-Ok-order_from.ensures

pub returns-in-Err-order_from : goal.returns-in-Err-order_from
returns-in-Err-order_from g c =
    read_refuses (Cover c.in-Cover.workers c.in-Cover.form) (covering_answer c.in-Cover.form) refl refl _ _ _ _ _ c.in-Cover.is c.in-Err-order_from.ensures

pub returns-in-Ok-order_from-2 : goal.returns-in-Ok-order_from-2
returns-in-Ok-order_from-2 g c =
    read_answers (Ical c.in-Ical.workers) calendar_answer refl refl _ c.in-Ok-order_from-2.order _ _ c.write_calendar.result
    _ _ _ _ _ c.in-Ical.is c.in-Ok-order_from-2.ensures refl c.write_calendar.ensures.writes c.write_calendar.ensures.count c.ending_of-in-Ok-order_from-2.ensures

pub returns-in-Err-order_from-2 : goal.returns-in-Err-order_from-2
returns-in-Err-order_from-2 g c =
    read_refuses (Ical c.in-Ical.workers) calendar_answer refl refl _ _ _ _ _ c.in-Ical.is c.in-Err-order_from-2.ensures

pub returns-in-Ok-set_from : goal.returns-in-Ok-set_from
returns-in-Ok-set_from g c =
    set_answers _ c.in-Set.workers c.in-Ok-set_from.set c.write_set.result _ _ _ _ _ c.in-Set.is c.in-Ok-set_from.ensures c.write_set.ensures.writes
    c.write_set.ensures.count c.ending_of-in-Ok-set_from.ensures

pub returns-in-Err-set_from : goal.returns-in-Err-set_from
returns-in-Err-set_from g c = set_refuses _ c.in-Set.workers _ _ _ _ c.in-Set.is c.in-Err-set_from.ensures

pub returns-in-Demo : goal.returns-in-Demo
returns-in-Demo g c =
    demo_answers _ c.in-Demo.number c.in-Demo.workers c.write_summary.result _ _ _ _ c.in-Demo.is c.write_summary.ensures.writes c.write_summary.ensures.count
    c.ending_of-in-Demo.ensures
