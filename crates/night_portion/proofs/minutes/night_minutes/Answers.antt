use Rattle.std.proofs.Common.{◌≡◌, ◌∙◌, ap, arith, map, get_or, to_z, of_z, w32}
use Rattle.std.proofs.lemmas.Int.{ints}
use Rattle.method_table.specs.Row.{Row, row_of}
use Rattle.cell_split.specs.declared.verdict.Entry.{Entry}
use Rattle.cell_split.specs.declared.verdict.Entry.TheVariants.{Minute}
use Rattle.night_portion.specs.Minutes.{night_of, portion_of, safe_minute}
use Rattle.night_portion.proofs.MinuteLemmas.{answered_is, fajr_is, isha_is}
use Rattle.night_portion.proofs.minutes.night_minutes.Goals as goal

pub returns-clause-fajr : goal.returns-clause-fajr
returns-clause-fajr c =
    let a = c.args in
    let night = night_of (map row_of a.problems.now) a.entries.now (map row_of a.sun.now) a.sun_entries.now in
    let part = answered_is a.problems.now a.entries.now 0 c.index-problems-0-2.result (Minute 0) (omega (arith, c.told-problems)) (omega (arith, c.told-entries)) in
    let fajr = answered_is a.problems.now a.entries.now 0 c.index-problems-0.result (Minute 0) (omega (arith, c.told-problems)) (omega (arith, c.told-entries)) in
    let rise = answered_is a.sun.now a.sun_entries.now 0 c.index-sun-0.result (Minute 0) (omega (arith, c.told-sun)) (omega (arith, c.told-sun_entries)) in
    let set = answered_is a.sun.now a.sun_entries.now 1 c.index-sun-1.result (Minute 0) (omega (arith, c.told-sun)) (omega (arith, c.told-sun_entries)) in
    fajr_is a.rule night c.portion_of.result c.safe_minute-fajr.result c.safe_minute-rise.result c.safe_minute-set.result c.fajr_by.result c.fajr_by.ensures
    (c.portion_of.ensures.value ∙ ap (portion_of a.rule) part) (c.safe_minute-fajr.ensures.value ∙ ap safe_minute fajr)
    (c.safe_minute-rise.ensures.value ∙ ap safe_minute rise) (c.safe_minute-set.ensures.value ∙ ap safe_minute set)

pub returns-clause-isha : goal.returns-clause-isha
returns-clause-isha c =
    let a = c.args in
    let night = night_of (map row_of a.problems.now) a.entries.now (map row_of a.sun.now) a.sun_entries.now in
    let last = get_or a.problems.now 6 c.index-problems-6-2.result in
    let bits : to_z w32 (of_z w32 last.shift) ≡ last.shift = omega (arith, ints, last.shift_not_negative, last.shift_not_high) in
    let interval = answered_is a.problems.now a.entries.now 6 c.index-problems-6-2.result (Minute 0) (omega (arith, c.told-problems)) (omega (arith, c.told-entries)) in
    let part = answered_is a.problems.now a.entries.now 6 c.index-problems-6-3.result (Minute 0) (omega (arith, c.told-problems)) (omega (arith, c.told-entries)) in
    let isha = answered_is a.problems.now a.entries.now 6 c.index-problems-6.result (Minute 0) (omega (arith, c.told-problems)) (omega (arith, c.told-entries)) in
    let rise = answered_is a.sun.now a.sun_entries.now 0 c.index-sun-0.result (Minute 0) (omega (arith, c.told-sun)) (omega (arith, c.told-sun_entries)) in
    let set = answered_is a.sun.now a.sun_entries.now 1 c.index-sun-1.result (Minute 0) (omega (arith, c.told-sun)) (omega (arith, c.told-sun_entries)) in
    isha_is a.rule a.method night (to_z w32 (of_z w32 last.shift)) c.portion_of-2.result c.safe_minute-isha.result c.safe_minute-rise.result c.safe_minute-set.result c.isha_by.result c.isha_by.ensures
    (bits ∙ ap (λ (x : Row × Entry). x.0.shift) interval) (c.portion_of-2.ensures.value ∙ ap (portion_of a.rule) part)
    (c.safe_minute-isha.ensures.value ∙ ap safe_minute isha) (c.safe_minute-rise.ensures.value ∙ ap safe_minute rise)
    (c.safe_minute-set.ensures.value ∙ ap safe_minute set)
