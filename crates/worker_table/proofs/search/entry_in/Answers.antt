use Rattle.std.proofs.Common.{◌∙◌, arith, map}
use Rattle.std.proofs.lemmas.List.{length-map}
use Rattle.days_sky.specs.Days.{rows_of_day}
use Rattle.days_sky.proofs.DayLemmas.{count_of_rows, whole_days}
use Rattle.order_table.specs.Made.{rows_of}
use Rattle.worker_table.proofs.SearchLemmas.{own_entry}
use Rattle.worker_table.proofs.search.entry_in.Goals as goal

pub bounds-ranks-k : goal.bounds-ranks-k
bounds-ranks-k c =
    let days = c.args.sky.now.days.now in
    omega (arith, c.requires.within, c.requires.column, c.requires.ranks.counted, count_of_rows (map rows_of_day days) (whole_days days), length-map days rows_of_day)

pub entry_of_ranks-requires-clause-known : goal.entry_of_ranks-requires-clause-known
entry_of_ranks-requires-clause-known c =
    let days = c.args.sky.now.days.now in
    omega (arith, c.requires.within, c.requires.column, count_of_rows (map rows_of_day days) (whole_days days), length-map days rows_of_day)

pub entry_of_ranks-requires-clause-ranks : goal.entry_of_ranks-requires-clause-ranks
entry_of_ranks-requires-clause-ranks c =
    let days = c.args.sky.now.days.now in
    c.requires.ranks.each _ _ (omega (arith, c.requires.within, c.requires.column, count_of_rows (map rows_of_day days) (whole_days days), length-map days rows_of_day))

pub returns-clause-value : goal.returns-clause-value
returns-clause-value c =
    c.entry_of_ranks.ensures.value ∙ own_entry c.args.sky.now.sky.now c.args.sky.now.days.now c.args.i (rows_of c.args.day.now) c.args.column
    c.requires.within c.requires.own c.requires.column
