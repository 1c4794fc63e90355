-- What `cover` writes for an order is answered by `check` as the order is by `plain`.
use Rattle.std.proofs.Common.{◌≡◌, ◌⊎◌, inl, inr, ℕ, ◌≤◌, List, length, Some, Ok, sym, ◌∙◌, subst}
use Rattle.command_input.specs.Input.{Covered, Input, a_covering, covering, limit_of, read}
use Rattle.covered_tables.proofs.Covering.{coverings_are_shown}
use Rattle.covered_tables.proofs.FirstLine.{coverings_are_read}
use Rattle.covered_tables.specs.Covered.{covering_lines}
use Rattle.order_covering.specs.Covering.{covering_of}
use Rattle.order_covering.specs.declared.form.Form.{Form}
use Rattle.order_reader.proofs.RuleKept.{orders_keep_the_rule}
use Rattle.order_rule.specs.Asked.{Asked}
use Rattle.order_rule.specs.Rule.{IsOrder}
use Rattle.order_table.specs.Trees.{table_of, undecided}
use Rattle.outcome.proofs.EndsLemmas.{IsWhole, Ways, done_none, done_or_open, open_some, ways}
use Rattle.outcome.specs.Answer.{Answer, finished}
use Rattle.outcome.specs.Ends.{EndsAs}
use Rattle.outcome.specs.Streams.{Streams}
use Rattle.outcome.specs.declared.status.Status.{Status}
use Rattle.outcome.specs.declared.status.Status.TheVariants.{Done, NoMemory}
use Rattle.outcome.specs.declared.status.Status.TheVariants.{Open as StatusOpen}
use Rattle.source_sink.specs.Outside.{Rose}
use Rattle.timetable.proofs.LawLemmas.{answered_whole, finished_is_whole, told_bytes_decide}
use Rattle.timetable.specs.Ended.{Ended}
use Rattle.timetable.specs.Laws.{CoveringsAreShownAgain, IsShownAgain}
use Rattle.command_words.specs.declared.command.Command.TheVariants.{Check}

-- the covering of an order, as `check` reads it
covered_by : Form → Asked → Covered
covered_by form o = record { order = o; lines = covering_lines form o }

-- a run over it ends as the answer to the order
ends_by_order : (o : Asked) → IsOrder o → (form : Form) → length (covering_of form o) ≤ limit_of a_covering →
    (status : Status) (before after : Streams) → Ended Check status before after → before.source.bytes ≡ Some (covering_of form o) →
    EndsAs (finished (undecided o) (table_of o)) status before.source after.source before.out after.out
unfolding covered_by
ends_by_order o is form short status before after run told =
    let decided = told_bytes_decide Check status before after (covering_of form o) (covering (read (Ok (covered_by form o)))) run told
    (short, coverings_are_read o is form) in
    subst (λ (a : Answer). EndsAs a status before.source after.source before.out after.out) (coverings_are_shown o is form) decided.ends

pub coverings_are_shown_again : CoveringsAreShownAgain
coverings_are_shown_again bytes o reads form short status before after run told =
    let n = undecided o in
    let come = ways (finished n (table_of o)) status before.source after.source before.out after.out
    (ends_by_order o (orders_keep_the_rule bytes o reads) form short status before after run told) in
    let whole : (status ≡ Done) ⊎ (status ≡ StatusOpen) → IsWhole (finished n (table_of o)) status before.out after.out =
    λ is. finished_is_whole (finished n (table_of o)) status before.source after.source before.out after.out is come in
    record {
      answered = λ no_read no_write. answered_whole n (table_of o) status before after no_read no_write come;
      written = λ is. (whole is).added;
      decided = λ is. done_none n (sym is ∙ (whole (inl is)).is);
      undecided = λ is. open_some n (sym is ∙ (whole (inr is)).is);
    }
