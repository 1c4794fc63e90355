-- A rule's offset at civil noon is what the reader of the zones gives there.
use Rattle.std.proofs.Common.{◌≡◌, ◌∙◌, ℤ, pos, Bool, true, false, cond, not, ◌&&◌, ◌||◌, List, ℕ, Option, Some, None, refl, sym, ap}
use Rattle.std.specs.Prelude.{int_lt, option_map}
use Rattle.jiff.specs.Placed.{IsPosixZone}
use Rattle.jiff.specs.Types.{AmbiguousOffset, DateTime, Fold, Gap, Offset, Unambiguous}
use Rattle.jiff.specs.Words.{civil_nanos, compatible_offset, epoch_day}
use Rattle.jiff_tz.proofs.YearLemmas.{year_of_day-date}
use Rattle.jiff_tz.specs.PosixRule.{ambiguous_at_by, ambiguous_by, in_span, in_window, match_some, rule_nanos, saturating_add, saturating_sub, shift_between}
use Rattle.jiff_tz.specs.PosixText.{dst_view, tz_view}
use Rattle.jiff_tz.specs.Zone.{ambiguous_at}
use Rattle.jiff_tz.specs.Year.{year_of_day}
use Rattle.jiff_tz.specs.declared.posix.Dst.{Dst}
use Rattle.jiff_tz.specs.declared.timezone.TimeZone.{TimeZone}
use Rattle.jiff_tz.specs.declared.timezone.TimeZone.TheVariants.{Fixed, Posix, Tzif, UTC, Unknown}
use Rattle.year_table.specs.Rules.{IsNoonOffset, moment, noon_of, offset_by, rule_seconds}

abbrev seconds_of : AmbiguousOffset → ℤ
seconds_of a = (compatible_offset a).seconds

ahead_cases : (std saving : Offset) (inside gap fold : Bool) → seconds_of (cond (not inside) (Unambiguous std) (cond gap (Gap std saving) (cond fold (Fold saving std) (Unambiguous saving)))) ≡ cond (inside && not gap) saving.seconds std.seconds
ahead_cases std saving false gap fold = refl
ahead_cases std saving true true fold = refl
ahead_cases std saving true false true = refl
ahead_cases std saving true false false = refl

behind_cases : (std saving : Offset) (inside fold gap : Bool) → seconds_of (cond inside (Unambiguous saving) (cond fold (Fold std saving) (cond gap (Gap saving std) (Unambiguous std)))) ≡ cond (inside || (not fold && gap)) saving.seconds std.seconds
behind_cases std saving true fold gap = refl
behind_cases std saving false true gap = refl
behind_cases std saving false false true = refl
behind_cases std saving false false false = refl

order_cases : (behind ahead : Bool) (x y : AmbiguousOffset) (std : Offset) (p q : ℤ) → seconds_of x ≡ p → seconds_of y ≡ q → seconds_of (cond behind x (cond ahead y (Unambiguous std))) ≡ cond behind p (cond ahead q std.seconds)
order_cases true ahead x y std p q e h = e
order_cases false true x y std p q e h = h
order_cases false false x y std p q e h = refl

window_seconds : (std saving : Offset) (w : ℤ × ℤ) (now : ℤ) → seconds_of (ambiguous_by std saving w now) ≡ offset_by std.seconds saving.seconds w now
window_seconds std saving w now =
    order_cases (int_lt saving.seconds std.seconds) (int_lt std.seconds saving.seconds) _ _ std _ _
    (behind_cases std saving (in_window w now) (in_span (saturating_add w.0 (shift_between std saving)) w.0 now) (in_span w.1 (saturating_sub w.1 (shift_between std saving)) now))
    (ahead_cases std saving (in_window w now) (in_span w.0 (saturating_add w.0 (shift_between std saving)) now) (in_span (saturating_sub w.1 (shift_between std saving)) w.1 now))

zone_seconds : (std : Offset) (saving : Option Dst) (dt : DateTime) → seconds_of (ambiguous_at_by std saving dt) ≡ match_some (option_map dst_view saving) std.seconds (λ d. offset_by std.seconds d.seconds (moment dt.date.year d.start, moment dt.date.year d.finish) (civil_nanos dt))
unfolding rule_nanos
zone_seconds std None dt = refl
zone_seconds std (Some d) dt =
    window_seconds std d.offset (rule_nanos dt.date.year d.rule.start (pos 0), rule_nanos dt.date.year d.rule.end (pos 0)) (civil_nanos dt)

pub noon_offset : (text : List ℕ) (zone : TimeZone) (dt : DateTime) (day : ℤ) → IsPosixZone text zone → epoch_day dt.date ≡ day → civil_nanos dt ≡ noon_of day → IsNoonOffset text day (compatible_offset (ambiguous_at zone dt)).seconds
unfolding ambiguous_at
noon_offset text UTC dt day h e n = absurd h
noon_offset text Unknown dt day h e n = absurd h
noon_offset text (Fixed o) dt day h e n = absurd h
noon_offset text (Tzif z) dt day h e n = absurd h
noon_offset text (Posix tz) dt day h e n =
    let year : dt.date.year ≡ year_of_day day = sym (year_of_day-date dt.date) ∙ ap year_of_day e in
    record { rule = tz_view tz; reads = h; is = zone_seconds tz.std_offset tz.dst dt ∙ (ap (λ y. rule_seconds (tz_view tz) y (civil_nanos dt)) year ∙ ap (λ m. rule_seconds (tz_view tz) (year_of_day day) m) n) }
