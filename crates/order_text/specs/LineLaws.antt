-- Laws of canonical lines.
use Rattle.std.specs.Prelude.{◌≡◌, ℕ, ◌≤◌, List, Result, Ok}
use Rattle.std.specs.Option.{ok_or}
use Rattle.json_value.specs.Tree.{Tree}
use Rattle.order_member.specs.Gives.{◌>>=◌}
use Rattle.geo_json.specs.Lookup.{object_in}
use Rattle.order_member.specs.Standing.{needed}
use Rattle.order_member.specs.declared.fault.Member.TheVariants.{Order, Version}
use Rattle.order_member.specs.declared.fault.OrderFault.{OrderFault}
use Rattle.order_member.specs.declared.fault.OrderFault.TheVariants.{Kind}
use Rattle.order_rule.specs.Asked.{Asked}
use Rattle.order_rule.specs.Rule.{IsOrder}
use Rattle.order_text.specs.Line.{order_body, version_of}
use Rattle.order_text.specs.LineReading.{ReadsLine, line_order_in, version_in}

-- bytes are one canonical line, or are refused as such in one way
abbrev pub LineReadingsAgree : Type 0
LineReadingsAgree = (bytes : List ℕ) (x y : Result Asked OrderFault) → ReadsLine bytes x → ReadsLine bytes y → x ≡ y

-- what is read keeps the rule of every order
abbrev pub LinesKeepTheRule : Type 0
LinesKeepTheRule = (bytes : List ℕ) (o : Asked) → ReadsLine bytes (Ok o) → IsOrder o

-- an order's line without its LF is read as that order
abbrev pub LinesAreReadAgain : Type 0
LinesAreReadAgain = (o : Asked) → IsOrder o → ReadsLine (order_body o) (Ok o)

-- the version that a line's tree states
abbrev pub stated_version : Tree → Result ℕ OrderFault
stated_version t = do
  es ← ok_or (object_in t) (Kind Order)
  needed Version es >>= version_in

-- no line that is read as an order states a lower version than the order's own line
abbrev pub VersionsAreLeast : Type 0
VersionsAreLeast =
    (t : Tree) (o : Asked) (version : ℕ) → stated_version t ≡ Ok version → line_order_in t ≡ Ok o → version_of o ≤ version
