use Rattle.std.proofs.Common.{refl}
use Rattle.outcome.proofs.Streams.{cut, written}
use Rattle.outcome.proofs.text.write_text.Goals as goal

pub returns-in-Ok-clause-writes : goal.returns-in-Ok-clause-writes
returns-in-Ok-clause-writes g c = written _ _ _ _ _ _ _ refl c.write_all.ensures.later c.in-Ok.ensures.ok

pub returns-in-Err-clause-writes : goal.returns-in-Err-clause-writes
returns-in-Err-clause-writes g c = cut _ _ _ _ _ _ _ refl refl c.write_all.ensures.later c.in-Err.ensures.failed c.in-Err.ensures.part
