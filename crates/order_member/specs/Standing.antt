-- What stands under a member's name: once where it must, at most once where it may.
use Rattle.std.specs.Prelude.{List, Option, Some, None, Result, Ok, Err}
use Rattle.json_value.specs.Tree.{Tree, Entry}
use Rattle.geo_json.specs.Lookup.{Found, absent, once, again, find_member}
use Rattle.order_member.specs.Words.{member_word}
use Rattle.order_member.specs.declared.fault.Member.{Member}
use Rattle.order_member.specs.declared.fault.OrderFault.{OrderFault}
use Rattle.order_member.specs.declared.fault.OrderFault.TheVariants.{Missing, Twice}

-- the value of a member that must stand once
abbrev pub needed_by : Member → Found → Result Tree OrderFault
needed_by m absent = Err (Missing m)
needed_by m (once t) = Ok t
needed_by m again = Err (Twice m)

abbrev pub needed : Member → List Entry → Result Tree OrderFault
needed m es = needed_by m (find_member (member_word m) es)

-- the value of a member that may stand once
abbrev pub optional_by : Member → Found → Result (Option Tree) OrderFault
optional_by m absent = Ok None
optional_by m (once t) = Ok (Some t)
optional_by m again = Err (Twice m)

abbrev pub optional : Member → List Entry → Result (Option Tree) OrderFault
optional m es = optional_by m (find_member (member_word m) es)
