-- Which verdict it is.
use Rattle.std.specs.Prelude.{Bool, true, false}
use Rattle.cell_split.specs.declared.verdict.Verdict.{Verdict}
use Rattle.cell_split.specs.declared.verdict.Verdict.TheVariants.{Split, Refuted, Open}

abbrev pub is_split : Verdict → Bool
is_split Split = true
is_split _ = false

abbrev pub is_refuted : Verdict → Bool
is_refuted (Refuted p) = true
is_refuted _ = false

abbrev pub is_open : Verdict → Bool
is_open (Open p) = true
is_open _ = false
