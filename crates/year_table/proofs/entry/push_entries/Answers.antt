use Rattle.std.proofs.Common.{◌∙◌, ◌≤◌, List, ◌++◌, ap, arith, length}
use Rattle.std.specs.Prelude.{flat_map, zip}
use Rattle.std.specs.String.{string_bytes}
use Rattle.std.proofs.lemmas.List.{take_all}
use Rattle.std.proofs.lemmas.Slice.Zip.{length-zip}
use Rattle.cell_split.specs.declared.verdict.Entry.TheVariants.{Minute}
use Rattle.method_table.specs.declared.problem.Problem.{Problem}
use Rattle.cell_split.specs.declared.verdict.Entry.{Entry}
use Rattle.year_table.specs.Lines.{cell_text}
use Rattle.year_table.proofs.LineLemmas.{cells_step}
use Rattle.year_table.proofs.entry.push_entries.Goals as goal

pub loop-i-preserved : goal.loop-i-preserved
loop-i-preserved c =
    cells_step c.args.problems.now c.args.entries.now c.loop-i.i c.index-problems-i.result (Minute 0) (omega arith) (omega arith) c.index-problems-i.is _ _ _ c.loop-i.invariant c.in_ok-push_entry.ensures

pub returns : goal.returns
returns c =
    let all : length (zip c.args.problems.now c.args.entries.now) ≤ c.loop-i.i = omega (arith, length-zip c.args.problems.now c.args.entries.now) in
    c.loop-i.invariant ∙ ap (λ (xs : List (Problem × Entry)). string_bytes c.args.line.now ++ flat_map cell_text xs) (take_all c.loop-i.i (zip c.args.problems.now c.args.entries.now) all)
