use Rattle.std.proofs.Common.{◌+◌, ◌*◌, ◌/◌, ◌^◌, ◌<◌, ℕ, sym, subst, arith}
use Rattle.fixed_interval.proofs.RootLaws.{whole_root_next, whole_root_unique}
use Rattle.fixed_interval.proofs.Newton.{positive, words_above, step_above}
use Rattle.fixed_interval.proofs.root.whole_root.Goals as goal

pub loop-root-init : goal.loop-root-init
loop-root-init c =
    let high = subst (λ (r : ℕ). c.args.n / 2 ^ 64 < (r + 1) * (r + 1)) (sym c.root_of_word-2.ensures.value) (whole_root_next (c.args.n / 2 ^ 64)) in
    words_above c.args.n c.root_of_word-2.result c.root_of_word-2.ensures.bound high

pub loop-root-preserved : goal.loop-root-preserved
loop-root-preserved c = subst (λ (r : ℕ). c.args.n < (r + 1) * (r + 1)) (sym c.next_root-root.ensures) (step_above c.args.n c.loop-root.root (positive c.args.n c.loop-root.root (omega (arith, c.loop-root-test.true, c.square.ensures))))

pub returns : goal.returns
returns c = sym (whole_root_unique c.args.n c.loop-root.root (omega (arith, c.loop-root-test.false, c.square.ensures)) c.loop-root.invariant)
