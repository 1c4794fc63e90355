-- What a harvest tells of one problem's tree.
use Rattle.std.proofs.Common.{◌≡◌, ℕ, ◌<◌, ◌≤◌, List, Option, None, Some, sym, ap, ◌∙◌, arith}
use Rattle.std.proofs.lemmas.Option.{get_or_from_slice_get}
use Rattle.std.specs.List.{slice_get}
use Rattle.cell_split.specs.declared.verdict.Leaf.{Leaf}
use Rattle.cell_split.specs.Entries.{greatest_ordinal, open_ordinal}
use Rattle.cell_split.specs.Judges.{Content, IsLawful}
use Rattle.cell_split.specs.Verdicts.{is_refuted}
use Rattle.plain_search.specs.Harvests.{IsHarvest, ordinal_of, ordinals_of}
use Rattle.plain_search.specs.TopRanks.{is_open_of}
use Rattle.plain_search.proofs.OpenLeaves.{greatest_in_frame, harvested_open}
use Rattle.covering.specs.Settles.{leaves_of, refuted_ordinal_of}

-- the rank is the refuted rank of the problem's tree, and the frame's
pub record IsRefutedRank (c : Content) (k : ℕ) (rank : Option ℕ) : Type 0 where
  pub ordinal : ordinal_of rank ≡ refuted_ordinal_of c k
  pub in_frame : ordinal_of rank ≤ 721

pub harvested_rank : (c : Content) (k : ℕ) (ranks : List (Option ℕ)) (found : List Leaf) (rank : Option ℕ) → IsLawful c → k < c.problems → IsHarvest c ranks found → slice_get ranks k ≡ Some rank → IsRefutedRank c k rank
harvested_rank c k ranks found rank law known h e =
    let ordinal : ordinal_of rank ≡ refuted_ordinal_of c k = ap ordinal_of (sym (get_or_from_slice_get ranks k rank None e)) ∙ h.refuted k known in
    let small : refuted_ordinal_of c k ≤ 721 = greatest_in_frame (λ l. is_refuted l.verdict) c k law known in
    record { ordinal = ordinal; in_frame = omega arith }

-- the greatest open rank above it, from the leaves of the harvest
pub harvested_open_rank : (c : Content) (k : ℕ) (ranks : List (Option ℕ)) (found : List Leaf) (rank : Option ℕ) (n : ℕ) → IsLawful c → k < c.problems → IsHarvest c ranks found → slice_get ranks k ≡ Some rank → n ≡ greatest_ordinal (is_open_of k (ordinal_of rank)) found → n ≡ open_ordinal (refuted_ordinal_of c k) (leaves_of c k)
harvested_open_rank c k ranks found rank n law known h e is =
    let same : ordinals_of ranks k ≡ refuted_ordinal_of c k = h.refuted k known in
    let own = (harvested_rank c k ranks found rank law known h e).ordinal ∙ sym same in
    is ∙ (ap (λ ordinal. greatest_ordinal (is_open_of k ordinal) found) own ∙ (harvested_open c k ranks found law known h ∙ ap (λ ordinal. open_ordinal ordinal (leaves_of c k)) same))
