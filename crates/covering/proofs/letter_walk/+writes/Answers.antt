use Rattle.std.proofs.Common.{rules, ◌≡◌, false, true, ltb, sym, ◌∙◌}
use Rattle.cell_split.specs.Verdicts.{is_split}
use Rattle.plain_search.specs.Harvests.{ordinal_of}
use Rattle.plain_search.proofs.TreeFacts.{child_at}
use Rattle.covering.proofs.Spelling.{letters_of_cut, written_all, written_leaf, written_more, written_split}
use Rattle.covering.proofs.letter_walk.+writes.Goals as goal

pub write_letters-returns-then-is_cut : goal.write_letters-returns-then-is_cut
write_letters-returns-then-is_cut g t c =
    let ordinal = ordinal_of c.args.refuted in
    let cut : ltb c.args.task.cell.last ordinal ≡ true = sym c.is_cut.ensures ∙ c.if-is_cut.true in
    rw (letters_of_cut (g.J.Judge.content c.args.judge.now) ordinal c.args.task cut) c.in_ok-push.ensures.items

pub write_letters-returns-in_ok-write_letters_below : goal.write_letters-returns-in_ok-write_letters_below
write_letters-returns-in_ok-write_letters_below g t c =
    let ordinal = ordinal_of c.args.refuted in
    let uncut : ltb c.args.task.cell.last ordinal ≡ false = sym c.is_cut.ensures ∙ c.if-is_cut.false in
    let split : is_split c.judge-verdict.result ≡ true = sym c.splits.ensures ∙ c.if-splits.true in
    written_split (g.J.Judge.content c.args.judge.now) ordinal c.args.task c.judge-verdict.result _ _ _ c.judge-verdict.ensures uncut split c.in_ok-write_letter.ensures c.in_ok-write_letters_below.ensures

pub write_letters-returns-else-splits : goal.write_letters-returns-else-splits
write_letters-returns-else-splits g t c =
    let ordinal = ordinal_of c.args.refuted in
    let uncut : ltb c.args.task.cell.last ordinal ≡ false = sym c.is_cut.ensures ∙ c.if-is_cut.false in
    let leaf : is_split c.judge-verdict.result ≡ false = sym c.splits.ensures ∙ c.if-splits.false in
    written_leaf (g.J.Judge.content c.args.judge.now) ordinal c.args.task c.judge-verdict.result _ _ c.judge-verdict.ensures uncut leaf c.in_ok-write_letter.ensures

pub write_letters_below-write_letters-requires : goal.write_letters_below-write_letters-requires
write_letters_below-write_letters-requires g t c κs within =
    let child = child_at (g.J.Judge.content c.args.judge.now) c.args.task _ c.loop-cell.cell-index _ c.requires c.loop-cell.invariant.children c.loop-cell-test.true in
    let fewer = child.1 in
    (search (rules, fewer, c.decreases), (search (rules, within), (search (rules, within), child.0)))

pub write_letters_below-loop-cell-preserved : goal.write_letters_below-loop-cell-preserved
write_letters_below-loop-cell-preserved g t c = record {
  children = c.loop-cell.invariant.children;
  written = written_more (g.J.Judge.content c.args.judge.now) (ordinal_of c.args.refuted) c.args.task _ c.loop-cell.cell-index _ _ _ _ c.loop-cell-test.true c.loop-cell.invariant.written c.in_ok-write_letters.ensures;
}

pub write_letters_below-returns : goal.write_letters_below-returns
write_letters_below-returns g t c =
    written_all (g.J.Judge.content c.args.judge.now) (ordinal_of c.args.refuted) c.args.task _ c.loop-cell.cell-index _ _ c.loop-cell.invariant.children c.loop-cell-test.false c.loop-cell.invariant.written
