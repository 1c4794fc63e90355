use Rattle.std.proofs.Common.{ℕ, List, ◌≡◌, ◌∙◌, ap, subst}
use Rattle.std.specs.Prelude.{IfOk}
use Rattle.outcome.specs.Writing.{Writes}
use Rattle.sun_verdict.proofs.TruthLemmas.{is_true_of_sky}
use Rattle.sun_verdict.specs.Line.{line_text, open_count, undecided_in, verdict_line}
use Rattle.sun_verdict.proofs.line.write_verdict.Goals as goal

pub returns-clause-writes : goal.returns-clause-writes
unfolding verdict_line
returns-clause-writes g c =
    let P : List ℕ → Type 0 = λ text. Writes {X = ℕ} text c.write_text.result (g.K.Sink.faults c.args.out.now)
    (g.K.Sink.faults c.write_text.new.out) (g.K.Sink.held c.args.out.now) (g.K.Sink.held c.write_text.new.out) in
    subst P (c.as_bytes.ensures.value ∙ c.in-Ok.ensures ∙ ap (line_text c.args.request.now) c.verdict_on-verdict.ensures)
    c.write_text.ensures.writes

pub returns-clause-count : goal.returns-clause-count
unfolding undecided_in
returns-clause-count g c =
    let P : ℕ → Type 0 = λ n. IfOk c.write_text.result (λ (count : ℕ). count ≡ n) in
    subst P (c.open_count.ensures ∙ ap open_count c.verdict_on-verdict.ensures) c.write_text.ensures.count

pub returns-in_default-clause-truth : goal.returns-in_default-clause-truth
returns-in_default-clause-truth g c = is_true_of_sky c.args.request.now c.requires

pub returns-clause-truth : goal.returns-clause-truth
returns-clause-truth g c = is_true_of_sky c.args.request.now c.requires
