use Rattle.std.proofs.Common.{◌≡◌, ◌++◌, All, drop, length}
use Rattle.set_search.specs.Searches.{IsFound}
use Rattle.set_search.specs.Joined.{column_of}
use Rattle.set_search.proofs.join.column_of.Given as goal

-- the entries so far, with those of the districts that are left, are all
abbrev pub invariant-loop-part : goal.invariant-loop-part
invariant-loop-part l = record {
  end : l.part-index-end ≡ length l.found;
  entries : l.entries.items ++ column_of l.column (drop l.part-index l.found) ≡ column_of l.column l.found;
  found : All IsFound l.entries.items;
}
