use Rattle.std.proofs.Common.{◌≡◌, ◌∙◌, List, arith, ap, map, subst}
use Rattle.std.specs.Prelude.{IfOk}
use Rattle.std.proofs.lemmas.List.{length-map}
use Rattle.days_sky.specs.Days.{rows_of_day}
use Rattle.cell_split.specs.declared.verdict.Entry.{Entry}
use Rattle.set_search.specs.Searches.{entries_by, judge_of}
use Rattle.set_search.proofs.SearchLemmas.{judges_are}
use Rattle.set_search.proofs.search.search_days.Goals as goal

pub search_judges-requires-clause-some : goal.search_judges-requires-clause-some
search_judges-requires-clause-some g c κs within =
    let are = judges_are c.args.skies.now c.args.days.now c.deref.result.now (map judge_of c.in_ok-judges.judges.items) c.requires.one_root c.requires.some
    c.requires.some_days c.requires.few (ap (map rows_of_day) c.deref.ensures.value ∙ c.in_ok-judged.ensures) c.in_ok-judges.ensures in
    omega (arith, are.some, length-map c.in_ok-judges.judges.items judge_of, c.deref-2.ensures.len)

pub search_judges-requires-clause-few : goal.search_judges-requires-clause-few
search_judges-requires-clause-few g c κs within =
    let are = judges_are c.args.skies.now c.args.days.now c.deref.result.now (map judge_of c.in_ok-judges.judges.items) c.requires.one_root c.requires.some
    c.requires.some_days c.requires.few (ap (map rows_of_day) c.deref.ensures.value ∙ c.in_ok-judged.ensures) c.in_ok-judges.ensures in
    omega (arith, are.few, length-map c.in_ok-judges.judges.items judge_of, c.deref-2.ensures.len)

pub search_judges-requires-clause-alike : goal.search_judges-requires-clause-alike
search_judges-requires-clause-alike g c κs within =
    let are = judges_are c.args.skies.now c.args.days.now c.deref.result.now (map judge_of c.in_ok-judges.judges.items) c.requires.one_root c.requires.some
    c.requires.some_days c.requires.few (ap (map rows_of_day) c.deref.ensures.value ∙ c.in_ok-judged.ensures) c.in_ok-judges.ensures in
    rw c.deref-2.ensures.value are.alike

pub returns-clause-entries : goal.returns-clause-entries
returns-clause-entries g c =
    let are = judges_are c.args.skies.now c.args.days.now c.deref.result.now (map judge_of c.in_ok-judges.judges.items) c.requires.one_root c.requires.some
    c.requires.some_days c.requires.few (ap (map rows_of_day) c.deref.ensures.value ∙ c.in_ok-judged.ensures) c.in_ok-judges.ensures in
    let P : List (List Entry) → Type 0 = λ es. IfOk c.search_judges.result (λ found. found.items ≡ es) in
    subst P (ap (λ js. map entries_by (map judge_of js)) c.deref-2.ensures.value ∙ are.found) c.search_judges.ensures.entries
