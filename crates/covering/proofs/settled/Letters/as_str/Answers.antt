use Rattle.covering.proofs.Running.{letters_utf8}
use Rattle.covering.proofs.settled.Letters.as_str.Goals as goal

pub unreachable-requires : goal.unreachable-requires
unreachable-requires c =
    c.in-Err.ensures.cases.0 (rw c.as_bytes.ensures (letters_utf8 c.args.self.now c.requires))
