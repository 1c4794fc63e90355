use Rattle.std.proofs.Common.{◌∙◌, w32}
use Rattle.std.proofs.lemmas.Int.{to_z-of_z}
use Rattle.year_table.proofs.DayLemmas.{noon_nanos}
use Rattle.year_table.proofs.date.noon_of.Goals as goal

pub returns-clause-moment : goal.returns-clause-moment
returns-clause-moment c =
    noon_nanos c.to_datetime.result c.date_of.result c.time.result c.args.day c.to_datetime.ensures.date c.to_datetime.ensures.time
    (c.date_of.ensures ∙ to_z-of_z w32 c.args.day c.ranges.day) c.time.ensures
