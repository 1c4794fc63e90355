-- The words of the members.
use Rattle.std.specs.Prelude.{ℕ, List, codes}
use Rattle.order_member.specs.declared.fault.Member.{Member}
use Rattle.order_member.specs.declared.fault.Member.TheVariants.{Order, Version, From, Days, Method, Asr, Zone, Height, LateIsha, Sun, Night, District}

abbrev pub member_word : Member → List ℕ
member_word Order = codes "order"
member_word Version = codes "version"
member_word From = codes "from"
member_word Days = codes "days"
member_word Method = codes "method"
member_word Asr = codes "asr"
member_word Zone = codes "zone"
member_word Height = codes "height"
member_word LateIsha = codes "late_isha"
member_word Sun = codes "sun"
member_word Night = codes "night"
member_word District = codes "district"
