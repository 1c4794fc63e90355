use Rattle.std.proofs.Common.{◌≡◌, ◌++◌, All, drop, map}
use Rattle.set_search.specs.Searches.{IsFound, entries_by}
use Rattle.set_search.proofs.search.entries_of_judges.Given as goal

-- the entries so far, with those of the judges that are left, are all
abbrev pub invariant-loop-i : goal.invariant-loop-i
invariant-loop-i g l = record {
  entries : l.found.items ++ map entries_by (drop l.i (map g.J.Judge.content l.set.skies.now)) ≡ map entries_by (map g.J.Judge.content l.set.skies.now);
  found : All (All IsFound) l.found.items;
}
