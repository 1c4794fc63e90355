-- The lines that say why an input is no order, no covering or no calendar.
use Rattle.std.specs.Prelude.{ℕ, List, [], ◌++◌, codes, decimal}
use Rattle.exact_json.specs.declared.fault.JsonFault.{JsonFault}
use Rattle.exact_json.specs.declared.fault.JsonFault.TheVariants.{NotJson, TooDeep, LongNumber, NoMemory}
use Rattle.ical_text.specs.declared.fault.IcalFault.{IcalFault}
use Rattle.ical_text.specs.declared.fault.IcalFault.TheVariants.{NotLine, Frame, Event}
use Rattle.ical_text.specs.declared.fault.IcalFault.TheVariants.{NoMemory as IcalNoMemory}
use Rattle.order_member.specs.Words.{member_word}
use Rattle.order_member.specs.declared.fault.OrderFault.{OrderFault}
use Rattle.order_member.specs.declared.fault.OrderFault.TheVariants.{Json, Missing, Twice, Kind, Range, Geometry, Region}
use Rattle.order_member.specs.declared.fault.OrderFault.TheVariants.{NoMemory as OrderNoMemory}
use Rattle.ring_survey.specs.declared.faults.RegionFault.{RegionFault}
use Rattle.ring_survey.specs.declared.faults.RegionFault.TheVariants.{Short, Open, TooMany, TooWide, TooFar, NoPolygon, NoMemory as RegionNoMemory}

-- places are counted from 0
unfoldable pub json_detail : JsonFault → List ℕ
json_detail (NotJson place) = codes "1 json 1 at " ++ decimal place
json_detail (TooDeep place) = codes "1 json 2 at " ++ decimal place
json_detail (LongNumber place) = codes "1 json 3 at " ++ decimal place
json_detail NoMemory = []

-- rings are counted from 0 through all polygons
unfoldable pub region_detail : RegionFault → List ℕ
region_detail (Short ring) = codes "7 region 1 ring " ++ decimal ring
region_detail (Open ring) = codes "7 region 2 ring " ++ decimal ring
region_detail TooMany = codes "7 region 3"
region_detail TooWide = codes "7 region 4"
region_detail TooFar = codes "7 region 5"
region_detail NoPolygon = codes "7 region 6"
region_detail RegionNoMemory = []

unfoldable pub detail_of : OrderFault → List ℕ
detail_of (Json fault) = json_detail fault
detail_of (Missing member) = codes "2 missing " ++ member_word member
detail_of (Twice member) = codes "3 twice " ++ member_word member
detail_of (Kind member) = codes "4 kind " ++ member_word member
detail_of (Range member) = codes "5 range " ++ member_word member
detail_of Geometry = codes "6 geometry"
detail_of (Region fault) = region_detail fault
detail_of OrderNoMemory = []

unfoldable pub refusal_line : OrderFault → List ℕ
refusal_line fault = codes "order refused " ++ (detail_of fault ++ codes "\n")

-- of an input with more bytes than an order may have
unfoldable pub long_line : List ℕ
long_line = codes "order refused 8 long\n"

-- ---- of a covering

-- of its first line, which is to spell an order
unfoldable pub covering_line : OrderFault → List ℕ
covering_line fault = codes "cover refused line 1 order " ++ (detail_of fault ++ codes "\n")

-- of more bytes than a covering may have
unfoldable pub long_covering : List ℕ
long_covering = codes "cover refused long\n"

-- ---- of a calendar

-- lines are counted from 1, after those that were folded are joined
unfoldable pub fault_text : IcalFault → List ℕ
fault_text (NotLine line) = decimal line ++ codes " fault 1"
fault_text (Frame line) = decimal line ++ codes " fault 2"
fault_text (Event line) = decimal line ++ codes " fault 3"
fault_text IcalNoMemory = []

unfoldable pub calendar_line : IcalFault → List ℕ
calendar_line fault = codes "ical refused line " ++ (fault_text fault ++ codes "\n")

-- of more bytes than a calendar may have
unfoldable pub long_calendar : List ℕ
long_calendar = codes "ical refused long\n"
