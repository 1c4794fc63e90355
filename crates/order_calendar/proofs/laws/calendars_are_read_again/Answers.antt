use Rattle.order_calendar.proofs.AgainLemmas.{calendars_are_read_again}
use Rattle.order_calendar.proofs.laws.calendars_are_read_again.Goals as goal

pub returns : goal.returns
returns c = calendars_are_read_again
