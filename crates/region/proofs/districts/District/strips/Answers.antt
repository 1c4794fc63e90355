use Rattle.std.proofs.Common.{length, arith, sym, ap, ◌∙◌}
use Rattle.ring_survey.specs.Faults.{first_fault}
use Rattle.ring_survey.proofs.Sound.{sound}
use Rattle.region.proofs.districts.District.strips.Goals as goal

pub strips_of-requires-clause-few : goal.strips_of-requires-clause-few
strips_of-requires-clause-few c =
    let few = (sound c.args.self.now (ap first_fault (sym c.self.view_is) ∙ c.self.invariant.sound)).few in
    let same = ap length (c.as_slice.ensures.value ∙ c.self.view_is) in
    omega arith
