use Rattle.std.proofs.Common.{inl, inr, ap, ◌∙◌, sym, Err}
use Rattle.std.proofs.lemmas.Bool.{false≢true}
use Rattle.covering_check.proofs.Valued.{no_value, value_is}
use Rattle.covering_check.proofs.check.read_value.Goals.{then-is_memory, else-is_memory}
use Rattle.covering_check.proofs.check.read_value.Goals as goal

pub returns-in-Ok : goal.returns-in-Ok
returns-in-Ok c = value_is c.args.line.now _ c.in-Ok.ensures.ok.0 c.in-Ok.ensures.ok.1

pub returns-after-is_memory : goal.returns-after-is_memory
returns-after-is_memory c =
    elim c.if-is_memory.branch [
      | then-is_memory w ↦ inl w.result-is
      | else-is_memory w ↦ inr (no_value c.args.line.now (c.in-Err.ensures.err (λ e. false≢true (sym w.if-is_memory.false ∙ c.is_memory.ensures.1 e))) ∙ ap (λ f. Err f) (sym w.result-is))
    ]
