-- Every problem of a lawful judge has what is settled of its tree.
use Rattle.std.proofs.Common.{ℕ, ◌<◌, ◌≤◌, refl, arith}
use Rattle.std.proofs.lemmas.Int.{ints}
use Rattle.cell_split.specs.Entries.{entry_of}
use Rattle.cell_split.specs.Judges.{Content, IsLawful}
use Rattle.cell_split.specs.Tree.{root_task}
use Rattle.cell_split.specs.Verdicts.{is_refuted}
use Rattle.covering.specs.declared.settled.Settled.{Settled}
use Rattle.covering.specs.Letters.{letters_of}
use Rattle.covering.specs.Refuted.{first_refuted, rank_of}
use Rattle.covering.specs.Settles.{leaves_of, refuted_ordinal_of}
use Rattle.plain_search.proofs.OpenLeaves.{greatest_in_frame}
use Rattle.covering.proofs.Refuting.{refuted_shown}
use Rattle.covering.proofs.Spelling.{letters_are}
use Rattle.covering_laws.specs.Acceptance.{TreesAreSettled}

settled_of : (c : Content) → IsLawful c → (problem : ℕ) → problem < c.problems → Settled
settled_of c law problem known =
    let ordinal = refuted_ordinal_of c problem in
    let frame : ordinal ≤ 721 = greatest_in_frame (λ l. is_refuted l.verdict) c problem law known in
    record {
      entry = entry_of (leaves_of c problem);
      r = rank_of ordinal;
      letters = letters_of c ordinal (root_task c problem);
      refuted = first_refuted ordinal (leaves_of c problem);
      not_low = omega (arith, ints);
      not_high = omega (arith, ints);
      shown = refuted_shown ordinal (leaves_of c problem) refl;
      spelled = letters_are c ordinal (root_task c problem);
    }

pub trees_settled : TreesAreSettled
unfolding settled_of
trees_settled c law problem known = (settled_of c law problem known, record { entry = refl; rank = refl; letters = refl; refuted = refl })
