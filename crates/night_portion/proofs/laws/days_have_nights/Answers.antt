use Rattle.night_portion.proofs.DayLemmas.{days_have_nights}
use Rattle.night_portion.proofs.laws.days_have_nights.Goals as goal

pub returns : goal.returns
returns c = days_have_nights
