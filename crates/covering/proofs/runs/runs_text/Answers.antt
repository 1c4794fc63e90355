use Rattle.std.proofs.Common.{rules, sym, ◌∙◌, string_bytes}
use Rattle.covering.proofs.Running.{letter_after, next_run, one_more}
use Rattle.covering.proofs.runs.runs_text.Goals.{then-letter-run, else-letter-run+in_ok-write_run}
use Rattle.covering.proofs.runs.runs_text.Goals as goal

pub loop-letter-preserved : goal.loop-letter-preserved
loop-letter-preserved c =
    elim c.if-letter-run.branch [
      | then-letter-run w ↦ record {
        left = c.loop-letter.invariant.left;
        written = rw (w.text-is, w.run-is, w.count-is) (one_more c.args.letters.now (string_bytes c.loop-letter.text) _ c.loop-letter.count c.loop-letter.run _ c.loop-letter.letter-index c.loop-letter-test.true w.if-letter-run.true c.loop-letter.invariant.written);
        letter = search rules;
        few = search rules;
      }
      | else-letter-run+in_ok-write_run w ↦ record {
        left = c.loop-letter.invariant.left;
        written = rw (w.text-is, w.count-is) (next_run c.args.letters.now (string_bytes c.loop-letter.text) (string_bytes w.write_run.new.text) _ c.loop-letter.count c.loop-letter.run c.if-letter-run.run _ c.loop-letter.letter-index c.loop-letter-test.true (sym w.run-is) (λ e. w.if-letter-run.false (sym w.run-is ∙ e)) w.in_ok-write_run.ensures c.loop-letter.invariant.written);
        letter = rw w.run-is (letter_after c.args.letters.now _ c.loop-letter.letter-index _ c.requires c.loop-letter.invariant.left c.loop-letter-test.true);
        few = search rules;
      }
    ]
