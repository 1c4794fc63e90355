use Rattle.std.proofs.Common.{◌≡◌, true, sym, ap, ◌∙◌, arith}
use Rattle.plain_search.specs.Harvests.{ordinal_of}
use Rattle.plain_search.specs.TopRanks.{is_open_of}
use Rattle.plain_search.proofs.Greatest.{greatest_next}
use Rattle.covering.proofs.entry.open_rank.Goals as goal
use Rattle.covering.proofs.entry.open_rank.Goals.{then-is_open_of, else-is_open_of}

pub loop-i-preserved : goal.loop-i-preserved
loop-i-preserved c =
    let leaf = c.leaf-leaf.result in
    let test = is_open_of c.args.k (ordinal_of c.args.refuted) in
    let next = greatest_next test c.args.harvest.now.leaves c.loop-i.i leaf c.leaf-leaf.ensures in
    record {
      end = c.loop-i.invariant.end;
      greatest = elim c.if-is_open_of.branch [
        | then-is_open_of w ↦
            let now = ap ordinal_of w.open-is in
            let passes : test leaf ≡ true = sym c.is_open_of.ensures ∙ w.if-is_open_of.true in
            let own = rw passes at next in
            omega (arith, w.later.ensures)
        | else-is_open_of w ↦
            let now = ap ordinal_of w.open-is in
            let fails = sym c.is_open_of.ensures ∙ w.if-is_open_of.false in
            let own = rw fails at next in
            omega arith
      ];
    }
