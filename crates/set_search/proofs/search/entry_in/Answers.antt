use Rattle.std.proofs.Common.{◌∙◌, arith, map}
use Rattle.std.proofs.lemmas.List.{length-map}
use Rattle.set_search.proofs.SearchLemmas.{own_entry}
use Rattle.set_search.proofs.search.entry_in.Goals as goal

pub bounds-ranks-k : goal.bounds-ranks-k
bounds-ranks-k g c =
    omega (arith, c.requires.within, c.requires.column, c.requires.ranks.counted, length-map c.args.set.now.skies.now g.J.Judge.content)

pub entry_of_ranks-requires-clause-known : goal.entry_of_ranks-requires-clause-known
entry_of_ranks-requires-clause-known g c =
    omega (arith, c.requires.within, c.requires.column, length-map c.args.set.now.skies.now g.J.Judge.content)

pub entry_of_ranks-requires-clause-ranks : goal.entry_of_ranks-requires-clause-ranks
entry_of_ranks-requires-clause-ranks g c =
    c.requires.ranks.each _ _ (omega (arith, c.requires.within, c.requires.column, length-map c.args.set.now.skies.now g.J.Judge.content))

pub returns-clause-value : goal.returns-clause-value
returns-clause-value g c =
    let set = c.args.set.now in
    c.entry_of_ranks.ensures.value ∙ own_entry g.J.Judge.content g.met.J.Judge.lawful set.skies.now set.alike c.args.i c.args.column c.requires.within c.requires.column
