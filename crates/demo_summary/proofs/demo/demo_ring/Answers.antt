use Rattle.std.proofs.Common.{◌≡◌, ◌-◌, ◌+◌, arith, suc}
use Rattle.demo_summary.proofs.DemoLemmas.{ring_is, ring_more}
use Rattle.demo_summary.proofs.demo.demo_ring.Goals as goal

pub loop-i-preserved : goal.loop-i-preserved
loop-i-preserved c =
    let left : 64 - c.loop-i.i ≡ suc (64 - (c.loop-i.i + 1)) = omega (arith, c.loop-i-test.true) in
    ring_more c.args.number c.loop-i.i (64 - c.loop-i.i) (64 - (c.loop-i.i + 1)) c.loop-i.ring.items c.push.new.self.items _ c.position_at.result
    left c.position_at.ensures c.in_ok-push.ensures.items c.loop-i.invariant

pub returns : goal.returns
returns c =
    ring_is c.args.number c.loop-i.i (64 - c.loop-i.i) c.loop-i.ring.items c.push-2.new.self.items c.position_at-2.result
    (omega (arith, c.loop-i-test.false)) c.position_at-2.ensures c.in_ok-push-2.ensures.items c.loop-i.invariant
