use Rattle.std.proofs.Common.{◌≤◌, ◌^◌, ◌*◌, ◌%◌, ◌≡◌, arith}
use Rattle.std.proofs.Math.Pow.{pow_mono}
use Rattle.std.proofs.lemmas.Int.{ints}
use Rattle.border_check.proofs.squares.side_of.Goals as goal

pub overflow_cast-result-2 : goal.overflow_cast-result-2
overflow_cast-result-2 c =
    let m : 2 ^ c.args.size ≤ 2 ^ 37 = pow_mono c.requires in
    let e : 1 * 2 ^ c.args.size % 18446744073709551616 ≡ 2 ^ c.args.size = omega (arith, m) in
    rw e (omega (arith, ints, m))

pub returns-clause-value : goal.returns-clause-value
returns-clause-value c =
    let m : 2 ^ c.args.size ≤ 2 ^ 37 = pow_mono c.requires in
    let e : 1 * 2 ^ c.args.size % 18446744073709551616 ≡ 2 ^ c.args.size = omega (arith, m) in
    rw e (omega (arith, ints, m))

pub returns-clause-bound : goal.returns-clause-bound
returns-clause-bound c =
    let m : 2 ^ c.args.size ≤ 2 ^ 37 = pow_mono c.requires in omega (arith, ints)
