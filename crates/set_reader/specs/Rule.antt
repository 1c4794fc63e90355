-- What is true of every set.
use Rattle.std.specs.Prelude.{◌≡◌, None}
use Rattle.order_rule.specs.Rule.{IsOrder}
use Rattle.set_reader.specs.Asked.{SetAsked}
use Rattle.set_reader.specs.Together.{AreParts}

pub record IsSet (s : SetAsked) : Type 0 where
  pub order : IsOrder s.whole
  pub no_rule : s.whole.night ≡ None
  pub parts : AreParts s.whole.district s.parts
