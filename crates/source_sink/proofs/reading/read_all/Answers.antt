use Rattle.std.proofs.Common.{◌++◌, take, refl, arith}
use Rattle.source_sink.proofs.Transfers.{gives_more, gives_same, gives_all, gives_longer, piece_within}
use Rattle.source_sink.proofs.reading.read_all.Goals as goal

pub turns-preserved : goal.turns-preserved
turns-preserved g c = record {
  later = omega (arith, c.turns.invariant.later, c.in-Bytes.ensures.later);
  given = gives_more _ _ _ c.turns.found.items (take c.in-Bytes.count c.read.new.buffer) _
      c.turns.invariant.given c.in-Bytes.ensures.case.2 c.in_ok-extend_from_slice-in-Bytes.ensures.items;
  few = rw (c.in_ok-extend_from_slice-in-Bytes.ensures.items)
      (piece_within c.args.limit c.in-Bytes.count c.turns.found.items c.read.new.buffer (omega arith) (omega (arith, c.in_ok-room.ensures.len)));
}

pub returns-in_err-extend_from_slice-in-Bytes-clause-some :
    goal.returns-in_err-extend_from_slice-in-Bytes-clause-some
returns-in_err-extend_from_slice-in-Bytes-clause-some g c =
    let bytes = take c.in-Bytes.count c.read.new.buffer in (
      c.turns.found.items ++ bytes,
      piece_within c.args.limit c.in-Bytes.count c.turns.found.items c.read.new.buffer (omega arith) (omega (arith, c.in_ok-room.ensures.len)),
      gives_more _ _ _ c.turns.found.items bytes (c.turns.found.items ++ bytes)
          c.turns.invariant.given c.in-Bytes.ensures.case.2 refl,
    )

pub returns-in-End-clause-some : goal.returns-in-End-clause-some
returns-in-End-clause-some g c =
    (c.turns.found.items, c.turns.invariant.few, gives_same _ _ _ c.turns.found.items c.turns.invariant.given c.in-End.ensures.case.0)

pub returns-in-End-clause-whole : goal.returns-in-End-clause-whole
returns-in-End-clause-whole g c =
    gives_all _ _ _ c.turns.found.items c.turns.invariant.given c.in-End.ensures.case.0 c.in-End.ensures.case.1

pub returns-in-Failed-clause-some : goal.returns-in-Failed-clause-some
returns-in-Failed-clause-some g c =
    (c.turns.found.items, c.turns.invariant.few, gives_same _ _ _ c.turns.found.items c.turns.invariant.given c.in-Failed.ensures.case.0)

pub returns-clause-some : goal.returns-clause-some
returns-clause-some g c = (c.turns.found.items, c.turns.invariant.few, c.turns.invariant.given)

pub returns-clause-long : goal.returns-clause-long
returns-clause-long g c =
    λ _. gives_longer _ _ c.turns.found.items c.args.limit c.turns.invariant.given (omega arith)
