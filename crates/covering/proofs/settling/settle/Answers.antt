use Rattle.std.proofs.Common.{◌≡◌, pos, neg_ℤ, int_eq, to_z, of_z, w32, sym, ap, ◌∙◌, arith}
use Rattle.std.specs.List.{list_all}
use Rattle.std.specs.Option.{is_none}
use Rattle.std.proofs.lemmas.Int.{ints}
use Rattle.cell_split.specs.Tree.{root_task}
use Rattle.plain_search.specs.Harvests.{ordinal_of}
use Rattle.covering.specs.Letters.{is_letter, letters_of}
use Rattle.covering.specs.Refuted.{first_refuted, rank_of}
use Rattle.covering.specs.Settles.{leaves_of}
use Rattle.covering.proofs.Harvested.{harvested_rank}
use Rattle.covering.proofs.Refuting.{refuted_shown}
use Rattle.covering.proofs.Spelling.{letters_are}
use Rattle.covering.proofs.settling.settle.Goals as goal

pub invariant_of-result : goal.invariant_of-result
invariant_of-result g c =
    let content = g.J.Judge.content c.args.judge.now in
    let ordinal = ordinal_of c.refuted_rank-rank.result in
    let rank = harvested_rank content c.args.k _ _ c.refuted_rank-rank.result (g.met.J.Judge.lawful c.args.judge.now) c.requires.known c.requires.harvest c.refuted_rank-rank.ensures in
    let number : to_z w32 (of_z w32 c.number_of.result) ≡ rank_of ordinal = omega (arith, ints, c.number_of.ensures) in
    let shown = rw c.root.ensures at c.first_refuted.ensures in
    let spelled = rw (c.root.ensures, c.new-letters.ensures.items) at c.in_ok-write_letters.ensures in
    record {
      not_low = omega (arith, ints);
      not_high = omega (arith, ints);
      shown = ap is_none shown ∙ (refuted_shown ordinal (leaves_of content c.args.k) rank.ordinal ∙ sym (ap (λ r. int_eq r (neg_ℤ (pos 1))) number));
      spelled = ap (list_all is_letter) spelled ∙ letters_are content ordinal (root_task content c.args.k);
    }

pub returns-clause-settled : goal.returns-clause-settled
returns-clause-settled g c =
    let content = g.J.Judge.content c.args.judge.now in
    let ordinal = ordinal_of c.refuted_rank-rank.result in
    let rank = harvested_rank content c.args.k _ _ c.refuted_rank-rank.result (g.met.J.Judge.lawful c.args.judge.now) c.requires.known c.requires.harvest c.refuted_rank-rank.ensures in
    let number : to_z w32 (of_z w32 c.number_of.result) ≡ rank_of ordinal = omega (arith, ints, c.number_of.ensures) in
    let shown = rw c.root.ensures at c.first_refuted.ensures in
    let spelled = rw (c.root.ensures, c.new-letters.ensures.items) at c.in_ok-write_letters.ensures in
    record {
      entry = c.entry_of.ensures.value;
      rank = number ∙ ap rank_of rank.ordinal;
      letters = spelled ∙ ap (λ n. letters_of content n (root_task content c.args.k)) rank.ordinal;
      refuted = shown ∙ ap (λ n. first_refuted n (leaves_of content c.args.k)) rank.ordinal;
    }
