use Rattle.std.proofs.Common.{◌≡◌, ◌∙◌, ◌++◌, ap, rules, FitsSigned, w32, to_z-of_z}
use Rattle.order_text.specs.Line.{version_text, days_text}
use Rattle.order_text.proofs.LineLemmas.{and_then}
use Rattle.order_text.proofs.line.push_span.Goals as goal
use Rattle.year_table.specs.Dates.{date_text}

pub returns : goal.returns
returns c =
    let fits : FitsSigned w32 c.args.from_day = search rules in
    let date : c.push_date.new.line.items ≡ c.append.new.line.items ++ date_text c.args.from_day = simp to_z-of_z at c.in_ok-push_date.ensures in
    let version : c.as_str.result.now ≡ version_text c.args.version =
    c.as_str.ensures.value ∙ c.in_ok-version.ensures in
    let first : c.append.new.line.items ≡ c.args.line.now.items ++ version_text c.args.version =
    c.in_ok-append.ensures ∙ ap (λ x. c.args.line.now.items ++ x) version in
    let last : c.append-2.new.line.items ≡ c.push_date.new.line.items ++ days_text c.args.days =
    c.in_ok-append-2.ensures ∙ ap (λ x. c.push_date.new.line.items ++ x) (c.as_str-2.ensures.value ∙ c.in_ok-days.ensures) in
    and_then c.args.line.now.items c.push_date.new.line.items c.append-2.new.line.items (version_text c.args.version ++ date_text c.args.from_day) (days_text c.args.days)
    (and_then c.args.line.now.items c.append.new.line.items c.push_date.new.line.items (version_text c.args.version) (date_text c.args.from_day) first date)
    last
