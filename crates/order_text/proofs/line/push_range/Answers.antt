use Rattle.std.proofs.Common.{◌≡◌, ◌++◌, rules, FitsSigned, w32, to_z-of_z}
use Rattle.order_text.proofs.LineLemmas.{range_pushed}
use Rattle.order_text.proofs.line.push_range.Goals as goal
use Rattle.year_table.specs.Dates.{date_text}

pub returns : goal.returns
returns c =
    let low : FitsSigned w32 c.args.range.0 = search rules in
    let high : FitsSigned w32 c.args.range.1 = search rules in
    let from : c.push_date.new.line.items ≡ c.append.new.line.items ++ date_text c.args.range.0 = simp to_z-of_z at c.in_ok-push_date.ensures in
    let to : c.push_date-2.new.line.items ≡ c.append-2.new.line.items ++ date_text c.args.range.1 = simp to_z-of_z at c.in_ok-push_date-2.ensures in
    range_pushed c.args.range c.args.line.now.items c.append.new.line.items c.push_date.new.line.items c.append-2.new.line.items c.push_date-2.new.line.items c.append-3.new.line.items
    c.in_ok-append.ensures from c.in_ok-append-2.ensures to c.in_ok-append-3.ensures
