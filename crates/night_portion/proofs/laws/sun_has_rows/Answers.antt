use Rattle.night_portion.proofs.DayLemmas.{sun_has_rows}
use Rattle.night_portion.proofs.laws.sun_has_rows.Goals as goal

pub returns : goal.returns
returns c = sun_has_rows
