use Rattle.std.proofs.Common.{ap}
use Rattle.ring_survey.specs.Vectors.{polygons_in}
use Rattle.set_reader.proofs.PartsLemmas.{one_made, one_refused}
use Rattle.set_reader.proofs.read.parts_of.Goals as goal
use Rattle.set_reader.specs.Views.{features_in}

pub returns-in-Err : goal.returns-in-Err
returns-in-Err c =
    let steps = c.in-Some.ensures.steps in
    one_refused c.loop-polygons.parts (features_in c.loop-polygons.polygons-iterator.rest.items) (features_in c.args.features.items) c.loop-polygons.invariant
    (polygons_in c.in-Some.polygons.items) (features_in c.next.new.self.rest.items) c.in-Err.fault (ap features_in steps.0) c.in-Err.ensures

pub loop-polygons-preserved : goal.loop-polygons-preserved
loop-polygons-preserved c =
    let steps = c.in-Some.ensures.steps in
    one_made c.loop-polygons.parts (features_in c.loop-polygons.polygons-iterator.rest.items) (features_in c.args.features.items) c.loop-polygons.invariant
    (polygons_in c.in-Some.polygons.items) c.in-Ok.district (features_in c.next.new.self.rest.items) c.push.new.self (ap features_in steps.0) c.in-Ok.ensures c.in_ok-push-in-Ok.ensures
