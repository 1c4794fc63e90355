use Rattle.std.proofs.Common.{◌≡◌, ◌∙◌, ap, arith, refl, pos, ◌-ℤ◌, to_z, of_z, w32, w64}
use Rattle.std.proofs.lemmas.Int.{ints, to_z-of_z}
use Rattle.method_table.specs.Row.{above, below}
use Rattle.method_table.specs.Table.{base_of, exactly, fajr_tenths, isha_range, isha_shift, maghrib_range}
use Rattle.method_table.proofs.RowLemmas.{exactly_or_is, row_is, rows_are}
use Rattle.method_table.proofs.table.problems.Goals as goal

pub returns : goal.returns
returns c =
    let a = c.args in
    let day : to_z w32 (of_z w32 a.day) ≡ a.day = to_z-of_z w32 a.day c.ranges.day in
    let offset : to_z w32 (of_z w32 a.offset) ≡ a.offset = to_z-of_z w32 a.offset c.ranges.offset in
    let interval : to_z w32 (of_z w32 a.interval) ≡ a.interval = to_z-of_z w32 a.interval c.ranges.interval in
    let noon : to_z w32 (of_z w32 a.noon) ≡ a.noon = to_z-of_z w32 a.noon c.ranges.noon in
    let half_before : to_z w32 (of_z w32 (to_z w32 (of_z w32 a.noon) -ℤ pos 720)) ≡ a.noon -ℤ pos 720 = omega (arith, ints) in
    let quarter_before : to_z w32 (of_z w32 (to_z w32 (of_z w32 a.noon) -ℤ pos 360)) ≡ a.noon -ℤ pos 360 = omega (arith, ints) in
    let base_bits : to_z w64 (of_z w64 c.base_of-base.result) ≡ c.base_of-base.result = omega (arith, ints) in
    let base : to_z w64 (of_z w64 c.base_of-base.result) ≡ base_of a.day a.offset = base_bits ∙ rw (← day, ← offset) c.base_of-base.ensures.value in
    let shift_bits : to_z w32 (of_z w32 c.isha_shift-shift.result) ≡ c.isha_shift-shift.result = omega (arith, ints) in
    let shift : to_z w32 (of_z w32 c.isha_shift-shift.result) ≡ isha_shift a.m a.interval = shift_bits ∙ rw (← interval) c.isha_shift-shift.ensures.value in
    let fajr : c.above.result ≡ above (exactly (fajr_tenths a.m)) = c.above.ensures.value ∙ ap above (c.exactly-fajr.ensures.value ∙ ap exactly c.fajr_tenths.ensures.value) in
    let sunset = c.horizon-sunset.ensures.value in
    let maghrib : c.exactly_or-maghrib.result ≡ maghrib_range a.m a.height = exactly_or_is _ _ _ _ _ c.exactly_or-maghrib.ensures.value c.maghrib_tenths.ensures.value sunset in
    let isha : c.exactly_or-isha.result ≡ isha_range a.m a.height = exactly_or_is _ _ _ _ _ c.exactly_or-isha.ensures.value c.isha_tenths.ensures.value maghrib in
    rows_are _ _ _ _ _ _ _ _ _ _ _ _ _ _
    (row_is _ _ _ _ _ _ _ _ _ _ _ c.row.ensures half_before base fajr refl)
    (row_is _ _ _ _ _ _ _ _ _ _ _ c.row-2.ensures half_before base (c.below.ensures.value ∙ ap below sunset) refl)
    (row_is _ _ _ _ _ _ _ _ _ _ _ c.row-3.ensures quarter_before base refl refl)
    (row_is _ _ _ _ _ _ _ _ _ _ _ c.row-4.ensures noon base c.shadow.ensures.value refl)
    (row_is _ _ _ _ _ _ _ _ _ _ _ c.row-5.ensures noon base (c.below-2.ensures.value ∙ ap below maghrib) refl)
    (row_is _ _ _ _ _ _ _ _ _ _ _ c.row-6.ensures noon base (c.above-2.ensures.value ∙ ap above isha) shift)
    (row_is _ _ _ _ _ _ _ _ _ _ _ c.row-7.ensures noon base (c.below-3.ensures.value ∙ ap below isha) shift)
