-- The lines that say why an input is no order with a border.
use Rattle.std.specs.Prelude.{ℕ, List, [], ◌++◌, codes}
use Rattle.command_input.specs.Refusals.{refusal_line, region_detail}
use Rattle.border_input.specs.declared.fault.BorderFault.{BorderFault}
use Rattle.border_input.specs.declared.fault.BorderFault.TheVariants.{Missing, Twice, Kind, Geometry, Region}
use Rattle.border_input.specs.declared.fault.RequestFault.{RequestFault}
use Rattle.border_input.specs.declared.fault.RequestFault.TheVariants.{Order, Border, NoMemory}

unfoldable pub border_detail : BorderFault → List ℕ
border_detail Missing = codes "2 missing border"
border_detail Twice = codes "3 twice border"
border_detail Kind = codes "4 kind border"
border_detail Geometry = codes "6 geometry"
border_detail (Region fault) = region_detail fault

unfoldable pub border_line : BorderFault → List ℕ
border_line fault = codes "border refused " ++ (border_detail fault ++ codes "\n")

unfoldable pub request_line : RequestFault → List ℕ
request_line (Order fault) = refusal_line fault
request_line (Border fault) = border_line fault
request_line NoMemory = []

-- of more bytes than there may be
unfoldable pub long_request : List ℕ
long_request = codes "border refused 8 long\n"
