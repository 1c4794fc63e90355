-- A search for several days finds each day's own entries.
use Rattle.std.proofs.Common.{◌≡◌, ℕ, ◌+◌, ◌*◌, ◌<◌, List, length, map, get_or, sym, subst}
use Rattle.std.proofs.lemmas.List.{length-map}
use Rattle.std.proofs.lemmas.List.Elements.{All-from_recursion}
use Rattle.cell_judge.specs.declared.sky.Sky.{Sky}
use Rattle.cell_judge.specs.Skies.{sky_content}
use Rattle.days_sky.specs.Days.{days_content, rows_of_day}
use Rattle.days_sky.specs.declared.day.Day.{Day}
use Rattle.days_sky.proofs.DayLemmas.{own_trees, whole_days}
use Rattle.method_table.specs.Row.{Row}
use Rattle.order_table.specs.Trees.{entry_at}

-- problem 7 i + k of all days has the entry of problem k of day i's own rows
pub own_entry : (sky : Sky) (days : List Day) (i : ℕ) (rows : List Row) (k : ℕ) → i < length days → get_or (map rows_of_day days) i rows ≡ rows → k < 7 →
    entry_at (days_content sky.sun sky.district (map rows_of_day days) sky.root) (7 * i + k) ≡ entry_at (sky_content sky.sun sky.district rows sky.root) k
own_entry sky days i rows k within own known =
    (own_trees sky.sun sky.district sky.root sky.lawful.root (map rows_of_day days)
    (All-from_recursion (λ (l : List Row). length l ≡ 7) (map rows_of_day days) (whole_days days)) i rows
    (subst (λ n. i < n) (sym (length-map days rows_of_day)) within) own k known).same_entry
