use Rattle.std.proofs.Common.{◌≡◌, drop}
use Rattle.json_value.specs.View.{entries_of}
use Rattle.geo_json.specs.Lookup.{values_named, find_member}
use Rattle.geo_json.specs.Seen.{found_of}
use Rattle.geo_json.proofs.LookupLemmas.{and_more}
use Rattle.geo_json.proofs.lookup.find_member.Given as goal

abbrev pub invariant-loop-i : goal.invariant-loop-i
invariant-loop-i l = and_more (found_of l.found) (values_named l.name (drop l.i (entries_of l.table))) ≡ find_member l.name (entries_of l.table)
