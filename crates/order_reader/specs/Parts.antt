-- Parts of an order, as what they ask.
use Rattle.order_reader.specs.Reading as reading
use Rattle.order_reader.specs.declared.parts.Basis.{Basis}
use Rattle.order_reader.specs.declared.parts.Extras.{Extras}

abbrev pub basis_view : Basis → reading.Basis
basis_view b = record { from_day = b.from_day; days = b.days; method = b.method; asr = b.asr; zone = b.zone; offsets = b.offsets }

abbrev pub extras_view : Extras → reading.Extras
extras_view x = record { height = x.height; late = x.late; sun = x.sun; night = x.night }
