use Rattle.ical_text.proofs.CalendarLemmas.{read_again}
use Rattle.ical_text.proofs.laws.calendars_are_read_again.Goals as goal

pub returns : goal.returns
returns c = read_again
