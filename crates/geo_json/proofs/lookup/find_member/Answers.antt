use Rattle.std.proofs.Common.{◌≡◌, ◌≤◌, true, false, length, sym, ap, ◌∙◌, arith, bytes_eq}
use Rattle.json_value.specs.View.{tree_of, entries_of}
use Rattle.geo_json.specs.Seen.{found_of, with_more}
use Rattle.geo_json.proofs.LookupLemmas.{found_at, missed_at, found_all}
use Rattle.geo_json.proofs.lookup.find_member.Goals as goal
use Rattle.geo_json.proofs.lookup.find_member.Goals.{then-eq, else-eq}

pub loop-i-preserved : goal.loop-i-preserved
loop-i-preserved c =
    elim c.if-eq.branch [
      | then-eq w ↦
          let same : bytes_eq c.name.result.now c.args.name.now ≡ true = cc in
          let step = found_at (found_of c.loop-i.found) c.args.name.now (entries_of c.args.table.now) c.loop-i.i c.name.result.now (tree_of w.value.result.now) c.name.ensures w.value.ensures same in
          let found : found_of c.if-eq.found ≡ with_more (found_of c.loop-i.found) (tree_of w.value.result.now) = ap found_of w.found-is ∙ w.with_more-found.ensures in
          rw found (sym step ∙ c.loop-i.invariant)
      | else-eq w ↦
          let other : bytes_eq c.name.result.now c.args.name.now ≡ false = cc in
          let step = missed_at (found_of c.loop-i.found) c.args.name.now (entries_of c.args.table.now) c.loop-i.i c.name.result.now c.name.ensures other in
          rw w.found-is (sym step ∙ c.loop-i.invariant)
    ]

pub returns : goal.returns
returns c =
    let past : length (entries_of c.args.table.now) ≤ c.loop-i.i = omega arith in
    sym (found_all (found_of c.loop-i.found) c.args.name.now (entries_of c.args.table.now) c.loop-i.i past) ∙ c.loop-i.invariant
