-- What is read of a member is in its range.
use Rattle.std.proofs.Common.{◌≡◌, refl, subst, ℕ, ◌≤◌, ℤ, pos, neg_ℤ, ◌+ℤ◌, ◌≤ℤ◌, Bool, true, false, cond, ◌&&◌, List, Option, Some, None, option_map, option_and_then, Result, Ok, Err, arith}
use Rattle.std.specs.Prelude.{int_le, unsigned_abs}
use Rattle.std.specs.Option.{ok_or}
use Rattle.std.proofs.lemmas.Int.{ints}
use Rattle.std.proofs.lemmas.Option.{cond_some}
use Rattle.exact_decimal.specs.Micro.{whole_of}
use Rattle.json_value.specs.Tree.{Tree}
use Rattle.exact_decimal.specs.declared.decimal.Decimal.{Decimal}
use Rattle.method_table.specs.declared.method.Method.{Method}
use Rattle.order_member.specs.Dates.{day_of, unless_far, ymd_in}
use Rattle.order_member.specs.Gives.{◌>>=◌}
use Rattle.geo_json.specs.Lookup.{list_in, number_in, text_in}
use Rattle.order_member.specs.Members.{days_in, days_of, from_in, height_in, late_in, late_of, offsets_in, pair_in, range_of, whole_within, zone_by, zone_in}
use Rattle.order_member.specs.declared.date.Ymd.{Ymd}
use Rattle.order_member.specs.declared.fault.Member.TheVariants as members
use Rattle.order_member.specs.declared.fault.OrderFault.{OrderFault}
use Rattle.order_member.specs.declared.fault.OrderFault.TheVariants.{Kind, Range}
use Rattle.order_rule.proofs.SignedLemmas.{between, le_from_test}
use Rattle.ring_survey.specs.Each.{each_of}
use Rattle.order_rule.specs.Late.{may_be_late}
use Rattle.order_rule.specs.Offsets.{is_day, is_zone, last_day, offsets_of}
use Rattle.plane_edges.proofs.Truth.{map_some}
use Rattle.year_table.specs.Dates.{civil_day}
use Rattle.year_table.specs.Rules.{is_rule}
use Rattle.year_table.specs.declared.zone.Zone.{Zone}
use Rattle.year_table.specs.declared.zone.Zone.TheVariants.{Fixed, Rule}

-- Steps that succeed.

pub or_ok : {A : Type 0} (o : Option A) (fault : OrderFault) (x : A) → ok_or o fault ≡ Ok x → o ≡ Some x
or_ok (Some y) fault x e = cc
or_ok None fault x e = absurd cc

and_then_some : {A B : Type 0} (f : A → Option B) (o : Option A) (y : B) → option_and_then f o ≡ Some y → (x : A) × (o ≡ Some x) × (f x ≡ Some y)
and_then_some f (Some x) y e = (x, refl, e)
and_then_some f None y e = absurd cc

-- The members.

whole_kept : (low high z : ℤ) (d : Decimal) → whole_within low high d ≡ Some z → (low ≤ℤ z) × (z ≤ℤ high)
whole_kept low high z d e =
    let found = and_then_some (λ n. cond (int_le low n && int_le n high) (Some n) None) (whole_of d) z e in
    let inside = cond_some (int_le low found.0 && int_le found.0 high) found.0 z found.2 in
    subst (λ n. (low ≤ℤ n) × (n ≤ℤ high)) inside.1 (between low high found.0 inside.0)

day_kept : (o : Option Ymd) (day : ℤ) → (ok_or o (Kind members.From) >>= λ ymd. ok_or (day_of ymd) (Range members.From)) ≡ Ok day → is_day day ≡ true
unfolding day_of
day_kept None day e = absurd cc
day_kept (Some ymd) day e =
    let found = and_then_some unless_far (civil_day ymd.year ymd.month ymd.day) day (or_ok (day_of ymd) (Range members.From) day e) in
    let inside = cond_some (is_day found.0) found.0 day found.2 in
    subst (λ d. is_day d ≡ true) inside.1 inside.0

pub from_kept : (t : Tree) (day : ℤ) → from_in t ≡ Ok day → is_day day ≡ true
unfolding from_in
from_kept t day e = day_kept (option_and_then ymd_in (text_in t)) day e

pub record AreDays (from : ℤ) (days : ℕ) : Type 0 where
  pub some : 1 ≤ days
  pub few : days ≤ 366
  pub late : (from +ℤ pos days) ≤ℤ (last_day +ℤ pos 1)

days_found : (from n : ℤ) (days : ℕ) → pos 1 ≤ℤ n → n ≤ℤ pos 366 → days_of from n ≡ Some days → AreDays from days
days_found from n days low high e =
    let inside = cond_some (int_le (from +ℤ n) (last_day +ℤ pos 1)) (unsigned_abs n) days e in
    let within = le_from_test (from +ℤ n) (last_day +ℤ pos 1) inside.0 in
    let is : unsigned_abs n ≡ days = inside.1 in
    record { some = omega (arith, ints); few = omega (arith, ints); late = omega (arith, ints, within) }

days_by : (from : ℤ) (o : Option Decimal) (days : ℕ) → (ok_or o (Kind members.Days) >>= λ number. ok_or (option_and_then (days_of from) (whole_within (pos 1) (pos 366) number)) (Range members.Days)) ≡ Ok days → AreDays from days
days_by from None days e = absurd cc
days_by from (Some d) days e =
    let found = and_then_some (days_of from) (whole_within (pos 1) (pos 366) d) days (or_ok _ (Range members.Days) days e) in
    let range = whole_kept (pos 1) (pos 366) found.0 d found.1 in
    days_found from found.0 days range.0 range.1 found.2

pub days_kept : (from : ℤ) (t : Tree) (days : ℕ) → days_in from t ≡ Ok days → AreDays from days
unfolding days_in
days_kept from t days e = days_by from (number_in t) days e

zone_known : (o : Option ℤ) (zone : Zone) → ok_or (option_map (λ minutes. Fixed minutes) o) (Range members.Zone) ≡ Ok zone → is_zone zone ≡ true
zone_known (Some minutes) zone e = (let same : Fixed minutes ≡ zone = cc in subst (λ z. is_zone z ≡ true) same refl)
zone_known None zone e = absurd cc

rule_known : (text : List ℕ) (b : Bool) (zone : Zone) → is_rule text ≡ b → ◌≡◌ {A = Result Zone OrderFault} (cond b (Ok (Rule text)) (Err (Kind members.Zone))) (Ok zone) → is_zone zone ≡ true
rule_known text true zone is e = (let same : Rule text ≡ zone = cc in subst (λ z. is_zone z ≡ true) same is)
rule_known text false zone is e = absurd cc

zone_by_known : (d : Option Decimal) (text : Option (List ℕ)) (zone : Zone) → zone_by d text ≡ Ok zone → is_zone zone ≡ true
zone_by_known (Some d) text zone e = zone_known (whole_within (neg_ℤ (pos 720)) (pos 840) d) zone e
zone_by_known None (Some text) zone e = rule_known text (is_rule text) zone refl e
zone_by_known None None zone e = absurd cc

pub zone_kept : (t : Tree) (zone : Zone) → zone_in t ≡ Ok zone → is_zone zone ≡ true
unfolding zone_in
zone_kept t zone e = zone_by_known (number_in t) (text_in t) zone e

pub offsets_kept : (from : ℤ) (days : ℕ) (zone : Zone) (offsets : List ℤ) → offsets_in from days zone ≡ Ok offsets → offsets_of zone from days ≡ Some offsets
unfolding offsets_in
offsets_kept from days zone offsets e = or_ok (offsets_of zone from days) (Range members.Zone) offsets e

height_by : (o : Option Decimal) (height : ℕ) → (ok_or o (Kind members.Height) >>= λ number. ok_or (option_map unsigned_abs (whole_within (pos 0) (pos 9000) number)) (Range members.Height)) ≡ Ok height → height ≤ 9000
height_by None height e = absurd cc
height_by (Some d) height e =
    let found = map_some unsigned_abs (whole_within (pos 0) (pos 9000) d) height (or_ok _ (Range members.Height) height e) in
    let range = whole_kept (pos 0) (pos 9000) found.0 d found.1 in
    omega (arith, ints, found.2, range.0, range.1)

pub height_kept : (t : Tree) (height : ℕ) → height_in t ≡ Ok height → height ≤ 9000
unfolding height_in
height_kept t height e = height_by (number_in t) height e

late_by : (method : Method) (o : Option (List (Ymd × Ymd))) (late : List (ℤ × ℤ)) → (ok_or o (Kind members.LateIsha) >>= λ pairs. ok_or (option_and_then (late_of method) (each_of range_of pairs)) (Range members.LateIsha)) ≡ Ok late → may_be_late method late ≡ true
late_by method None late e = absurd cc
late_by method (Some pairs) late e =
    let found = and_then_some (late_of method) (each_of range_of pairs) late (or_ok _ (Range members.LateIsha) late e) in
    let inside = cond_some (may_be_late method found.0) found.0 late found.2 in
    subst (λ l. may_be_late method l ≡ true) inside.1 inside.0

pub late_kept : (method : Method) (t : Tree) (late : List (ℤ × ℤ)) → late_in method t ≡ Ok late → may_be_late method late ≡ true
unfolding late_in
late_kept method t late e = late_by method (option_and_then (each_of pair_in) (list_in t)) late e
