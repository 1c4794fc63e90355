use Rattle.demo_summary.proofs.LineLemmas.{district_pushed}
use Rattle.demo_summary.proofs.line.push_district.Goals as goal

pub returns : goal.returns
returns c =
    district_pushed c.args.ring.now c.args.line.now.items c.append.new.line.items c.push_positions.new.line.items c.append-2.new.line.items
    c.in_ok-append.ensures c.in_ok-push_positions.ensures c.in_ok-append-2.ensures
