use Rattle.std.proofs.Common.{◌≤◌, ◌^◌, arith}
use Rattle.std.proofs.Math.Pow.{pow_mono}
use Rattle.cell_judge.proofs.tiles.power_of_two.Goals as goal

pub returns-clause-bound : goal.returns-clause-bound
returns-clause-bound c =
    let m : 2 ^ c.args.n ≤ 2 ^ 29 = pow_mono c.requires in omega arith
