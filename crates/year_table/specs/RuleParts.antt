-- A rule's text and what the reader of the zones made of it.
use Rattle.std.specs.Prelude.{◌≡◌, ℕ, List, true}
use Rattle.jiff.specs.Placed.{IsPosixZone}
use Rattle.jiff.specs.ZoneView.{plain_zone}
use Rattle.jiff.specs.declared.tz.timezone.TimeZone.{TimeZone}
use Rattle.year_table.specs.Rules.{is_plain}

pub record IsRuleOf (text : List ℕ) (zone : TimeZone) : Type 0 where
  pub plain : is_plain text ≡ true
  pub read : IsPosixZone text (plain_zone zone)
