use Rattle.timetable.proofs.ExampleLemmas.{first_request, sun_is_answered, sun_with_four}
use Rattle.timetable.proofs.examples.first_sun.Goals as goal

pub returns : goal.returns
returns c =
    sun_is_answered _ _ _ _ _ c.run_in_memory.ensures first_request
    (sun_with_four _ _ _ _ _ c.in_ok-from_str.ensures.ok c.in_ok-from_str-2.ensures.ok c.in_ok-from_str-3.ensures.ok c.in_ok-from_str-4.ensures.ok
    c.in_ok-from_str-5.ensures.ok)
