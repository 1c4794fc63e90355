-- A day as the code keeps it, with what a search finds.
use Rattle.std.specs.Prelude.{List}
use Rattle.cell_judge.specs.declared.sky.Sky.{Sky}
use Rattle.order_table.specs.Made.{day_of}
use Rattle.order_table.specs.declared.day.Day.{Day}
use Rattle.set_search.specs.Searches.{entries_on}
use Rattle.set_table.specs.Table.{SetDay, set_day}

-- the day with its entries over each district
unfoldable pub searched : List Sky → Day → SetDay
searched skies day = set_day (day_of day) (entries_on skies day)
