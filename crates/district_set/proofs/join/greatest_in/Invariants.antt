use Rattle.std.proofs.Common.{◌≡◌, max, drop}
use Rattle.district_set.specs.Joins.{decided_value, greatest, open_from, open_safe}
use Rattle.district_set.proofs.join.greatest_in.Given as goal

-- the greatest so far, with those of what is left, are those of all
abbrev pub invariant-loop-e : goal.invariant-loop-e
invariant-loop-e l = record {
  decided : max l.decided (greatest decided_value (drop l.e-index l.entries)) ≡ greatest decided_value l.entries;
  safe : max l.safe (greatest open_safe (drop l.e-index l.entries)) ≡ greatest open_safe l.entries;
  from : max l.from (greatest open_from (drop l.e-index l.entries)) ≡ greatest open_from l.entries;
}
