-- The root is exact, or lies between the one rounded down and the next.
use Rattle.std.proofs.Common.{◌+◌, ◌*◌, ◌<◌, ◌≤◌, ℕ, pos, ap, sym, ◌∙◌, subst, arith}
use Rattle.fixed_interval.proofs.Bits.{read_natural, one_more}
use Rattle.fixed_interval.proofs.RootLaws.{whole_root_below, whole_root_next, root_up-square, root_up-between}
use Rattle.fixed_interval.proofs.steps.root_up.Goals as goal

pub returns-then-square-n : goal.returns-then-square-n
returns-then-square-n c = read_natural c.whole_root-root.result (omega arith) ∙ ap pos (sym (root_up-square c.args.n c.whole_root-root.result (sym c.square.ensures ∙ c.if-square-n.true)))

pub returns-else-square-n : goal.returns-else-square-n
returns-else-square-n c =
    let n = c.args.n in
    let r = c.whole_root-root.result in
    let root = sym c.whole_root-root.ensures in
    let below = subst (λ (s : ℕ). s * s ≤ n) root (whole_root_below n) in
    let next = subst (λ (s : ℕ). n < (s + 1) * (s + 1)) root (whole_root_next n) in
    one_more r (omega arith) ∙ ap pos (sym (root_up-between n r (omega (arith, below, c.square.ensures, c.if-square-n.false)) next))
