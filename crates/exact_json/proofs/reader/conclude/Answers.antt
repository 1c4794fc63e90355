use Rattle.std.proofs.Common.{sym, ap, ◌∙◌, option_map}
use Rattle.json_value.specs.Seen.{seen_with}
use Rattle.json_value.specs.View.{tree_of}
use Rattle.exact_json.proofs.Faults.{accepted}
use Rattle.exact_json.proofs.ReaderRuns.{one_tree, end_fault, end_refuses}
use Rattle.exact_json.proofs.reader.conclude.Goals as goal

pub returns-in-Some-clause-ok : goal.returns-in-Some-clause-ok
returns-in-Some-clause-ok c =
    accepted (seen_with c.args.machine.now c.args.next) (tree_of c.in-Some.value) c.args.bytes.now c.requires (sym c.in_ok-found.ensures ∙ ap (option_map tree_of) c.in-Some.is)

pub returns-in-Some-clause-only : goal.returns-in-Some-clause-only
returns-in-Some-clause-only c =
    one_tree c.args.bytes.now (seen_with c.args.machine.now c.args.next) (tree_of c.in-Some.value) c.requires (sym c.in_ok-found.ensures ∙ ap (option_map tree_of) c.in-Some.is)

pub returns-in-None-clause-refused : goal.returns-in-None-clause-refused
returns-in-None-clause-refused c =
    λ t json. absurd (end_refuses c.args.bytes.now (seen_with c.args.machine.now c.args.next) c.requires (sym c.in_ok-found.ensures ∙ ap (option_map tree_of) c.in-None.is) t json)

pub returns-in-None-clause-fault : goal.returns-in-None-clause-fault
returns-in-None-clause-fault c = end_fault c.args.bytes.now (seen_with c.args.machine.now c.args.next) c.requires (sym c.in_ok-found.ensures ∙ ap (option_map tree_of) c.in-None.is)
