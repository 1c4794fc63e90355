-- What is said to words that are no command.
use Rattle.std.specs.Prelude.{ℕ, List, codes}

unfoldable pub usage_line : List ℕ
usage_line =
    codes "usage: timetable table [--workers W] | cover [--workers W] [--form F] | demo [--number M] [--workers W] | plain | check | order | sun MINUTE LON LAT WHAT [meeus] | set [--workers W] | ical [--workers W] | agenda\n"
