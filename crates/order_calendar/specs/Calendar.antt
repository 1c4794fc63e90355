-- The calendar of an order: an event for each minute of its table, in the order of the days and of the columns. Nights have none.
use Rattle.std.specs.Prelude.{ℕ, List, map}
use Rattle.std.specs.Fmt.{signed_decimal}
use Rattle.ical_text.specs.Tables.{Found, Sheet, table_calendar, table_events}
use Rattle.ical_text.specs.declared.event.Event.{Event}
use Rattle.order_rule.specs.Asked.{Asked}
use Rattle.order_table.specs.Table.{DayTable}
use Rattle.order_table.specs.Trees.{table_of_trees}
use Rattle.ring_survey.specs.Extent.{latitudes, least, longitudes}
use Rattle.year_table.specs.declared.zone.Zone.{Zone}
use Rattle.year_table.specs.declared.zone.Zone.TheVariants.{Fixed, Rule}

-- the offset in minutes, or the rule
abbrev pub zone_words : Zone → List ℕ
zone_words (Fixed minutes) = signed_decimal minutes
zone_words (Rule text) = text

-- what the events have in common
abbrev pub sheet_of : Asked → Sheet
sheet_of o =
    record {
      west = least (longitudes o.district);
      south = least (latitudes o.district);
      from = o.from_day;
      method = o.method;
      asr = o.asr;
      zone = zone_words o.zone;
    }

-- the rows of a day's columns with their entries
abbrev pub found_on : DayTable → Found
found_on day = record { number = day.number; found = day.found }

-- the events of an order's calendar
unfoldable pub events_of : Asked → List Event
events_of o = table_events (sheet_of o) (map found_on (table_of_trees o))

-- its text
unfoldable pub calendar_of : Asked → List ℕ
calendar_of o = table_calendar (sheet_of o) (map found_on (table_of_trees o))
