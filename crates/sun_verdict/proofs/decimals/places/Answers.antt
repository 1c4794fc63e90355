use Rattle.sun_verdict.proofs.Digits.{is_below_scaled}
use Rattle.sun_verdict.proofs.decimals.places.Goals as goal

pub returns-clause-bound : goal.returns-clause-bound
returns-clause-bound c =
    let below = rw c.as_bytes.ensures.value at c.in_ok-value.ensures.bound in
    is_below_scaled c.in_ok-value.value _ c.scale.result below c.scale.ensures.bound
