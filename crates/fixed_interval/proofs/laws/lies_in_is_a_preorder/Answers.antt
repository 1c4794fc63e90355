-- By the order of fractions, end by end.
use Rattle.fixed_interval.proofs.EnclosureLaws.{LiesIn_refl, LiesIn_trans, above_zero, below_zero, above_not_below}
use Rattle.fixed_interval.proofs.laws.lies_in_is_a_preorder.Goals as goal

pub returns : goal.returns
returns c = record {
  reflexive = LiesIn_refl;
  transitive = LiesIn_trans;
  above = above_zero;
  below = below_zero;
  above_only = λ a b o h s k. above_not_below a o (above_zero a b h s) k;
  below_only = λ a b o h s k. above_not_below a o k (below_zero a b h s);
}
