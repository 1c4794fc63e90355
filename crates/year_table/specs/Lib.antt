pub mod Dates
pub mod Entries
pub mod Lines
pub mod RuleParts
pub mod Rules
pub mod Zones
