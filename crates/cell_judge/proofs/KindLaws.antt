-- The laws on the value of every kind of condition.
use Rattle.std.proofs.Common.{refl}
use Rattle.fixed_interval.specs.Grid.{enclosure_of_range}
use Rattle.fixed_interval.proofs.EnclosureLaws.{LiesIn_refl}
use Rattle.fixed_interval.proofs.Inclusion.{range_ordered}
use Rattle.altitude_test.proofs.ValueLaws.{altitude_narrows, grid_altitude_holds, grid_meridian_holds, meridian_narrows}
use Rattle.asr_test.proofs.AsrLaws.{asr_narrows, grid_asr_holds}
use Rattle.method_table.specs.declared.problem.Kind.TheVariants.{Above, Below, Past, Shadow}
use Rattle.cell_judge.specs.Conditions.{angles}
use Rattle.cell_judge.specs.Skies.{grid_value}
use Rattle.cell_judge.specs.KindLaws.{GridHoldsEveryKind, ValuesOfEveryKindNarrow, exact_value}

pub values_of_every_kind_narrow : ValuesOfEveryKindNarrow
unfolding exact_value
values_of_every_kind_narrow (Above low high) is n n' s s' m m' b b' deeper part =
    altitude_narrows n n' s s' m m' b b' _ _ deeper part (range_ordered (angles low high) (is.above low high refl).ordered) (LiesIn_refl (enclosure_of_range (angles low high)))
values_of_every_kind_narrow (Below low high) is n n' s s' m m' b b' deeper part =
    altitude_narrows n n' s s' m m' b b' _ _ deeper part (range_ordered (angles low high) (is.below low high refl).ordered) (LiesIn_refl (enclosure_of_range (angles low high)))
values_of_every_kind_narrow Past is n n' s s' m m' b b' deeper part = meridian_narrows n n' s s' m m' b b' deeper part
values_of_every_kind_narrow (Shadow factor) is n n' s s' m m' b b' deeper part = asr_narrows n n' s s' m m' b b' factor deeper part

pub grid_holds_every_kind : GridHoldsEveryKind
unfolding exact_value grid_value
grid_holds_every_kind (Above low high) is grid s m r b c part =
    grid_altitude_holds s (grid r) m r b c _ (angles low high) part (range_ordered (angles low high) (is.above low high refl).ordered) (LiesIn_refl (enclosure_of_range (angles low high)))
grid_holds_every_kind (Below low high) is grid s m r b c part =
    grid_altitude_holds s (grid r) m r b c _ (angles low high) part (range_ordered (angles low high) (is.below low high refl).ordered) (LiesIn_refl (enclosure_of_range (angles low high)))
grid_holds_every_kind Past is grid s m r b c part = grid_meridian_holds s (grid r) m r b c part
grid_holds_every_kind (Shadow factor) is grid s m r b c part = grid_asr_holds s (grid r) m r b c factor part
