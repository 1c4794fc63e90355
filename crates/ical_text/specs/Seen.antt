-- A property as the reader has it.
use Rattle.ical_text.specs.Properties as properties
use Rattle.ical_text.specs.declared.property.Property.{Property}

abbrev pub property_seen : Property → properties.Property
property_seen p = record { name = p.name; value = p.value.now }
