use Rattle.std.proofs.Common.{refl, arith}
use Rattle.timetable.proofs.MemoryLemmas.{keeps_the_laws}
use Rattle.timetable.proofs.memory.run_in_memory.Goals as goal

pub returns : goal.returns
returns c = keeps_the_laws _ _ _ _ _ c.run_plain.ensures.ended refl (λ rose. omega (arith, rose)) (λ rose. omega (arith, rose))
