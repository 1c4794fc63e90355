use Rattle.std.proofs.Common.{◌∙◌, ap, arith, length, map}
use Rattle.std.proofs.lemmas.List.{length-map}
use Rattle.method_table.specs.Row.{row_of}
use Rattle.cell_judge.specs.Skies.{sky_content}
use Rattle.order_table.specs.Trees.{entry_at}
use Rattle.order_table.proofs.search.entry_in.Goals as goal

pub entry_at-requires : goal.entry_at-requires
entry_at-requires c =
    let same = ap length c.requires.day in
    let seven = c.args.day.now.seven in
    omega (arith, same, seven, c.requires.column, length-map c.args.sky.now.problems row_of)

pub returns-clause-value : goal.returns-clause-value
returns-clause-value c =
    c.entry_at.ensures.value
    ∙ ap (λ ps. entry_at (sky_content c.args.sky.now.sun c.args.sky.now.district (map row_of ps) c.args.sky.now.root) c.args.column) c.requires.day
