use Rattle.std.proofs.Common.{◌≡◌, length, take}
use Rattle.cell_split.specs.Entries.{greatest_ordinal}
use Rattle.plain_search.specs.Harvests.{ordinal_of}
use Rattle.plain_search.specs.TopRanks.{is_open_of}
use Rattle.covering.proofs.entry.open_rank.Given as goal

abbrev pub invariant-loop-i : goal.invariant-loop-i
invariant-loop-i l = record {
  end : l.i-end ≡ length l.harvest.leaves;
  greatest : ordinal_of l.open ≡ greatest_ordinal (is_open_of l.k (ordinal_of l.refuted)) (take l.i l.harvest.leaves);
}
