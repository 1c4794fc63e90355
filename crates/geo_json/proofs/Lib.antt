pub mod GeometryLemmas
pub mod LookupLemmas
