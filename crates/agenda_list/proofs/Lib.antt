pub mod AgendaLemmas
