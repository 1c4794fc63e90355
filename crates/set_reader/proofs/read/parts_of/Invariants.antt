use Rattle.set_reader.proofs.PartsLemmas.{AreSoFar}
use Rattle.set_reader.proofs.read.parts_of.Given as goal
use Rattle.set_reader.specs.Views.{features_in}

abbrev pub invariant-loop-polygons : goal.invariant-loop-polygons
invariant-loop-polygons l = AreSoFar l.parts (features_in l.polygons-iterator.rest.items) (features_in l.fn.features.items)
