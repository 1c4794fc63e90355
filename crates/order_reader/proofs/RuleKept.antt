-- What is read as an order keeps the rule of every order.
use Rattle.std.proofs.Common.{◌≡◌, refl, sym, subst, ℕ, ◌≤◌, ℤ, true, List, [], Option, Some, None, Result, Ok, Err, arith}
use Rattle.std.specs.Option.{ok_or}
use Rattle.json_value.specs.Tree.{Tree, Entry}
use Rattle.exact_json.specs.declared.fault.JsonFault.{JsonFault}
use Rattle.method_table.specs.declared.method.Asr.{Asr}
use Rattle.method_table.specs.declared.method.Method.{Method}
use Rattle.night_rule.specs.declared.rule.NightRule.{NightRule}
use Rattle.order_member.proofs.GivenSteps.{gave}
use Rattle.order_member.proofs.MembersKept.{AreDays, days_kept, from_kept, height_kept, late_kept, offsets_kept, zone_kept}
use Rattle.geo_json.specs.Geometry.{geometry_of}
use Rattle.order_member.specs.Gives.{◌>>=◌}
use Rattle.geo_json.specs.Lookup.{object_in}
use Rattle.order_member.specs.Members.{asr_in, days_in, from_in, height_in, late_in, method_in, offsets_in, zone_in}
use Rattle.order_reader.specs.Reading as reading
use Rattle.order_member.specs.Standing.{needed, optional}
use Rattle.order_reader.specs.Reading.{Basis, Extras, asked_by, basis_of, district_in, district_of, extras_of, height_of, night_of, or_absent, order_in, order_of, unless_refused}
use Rattle.order_reader.specs.Reads.{OrdersKeepTheRule, answer_by}
use Rattle.order_member.specs.declared.fault.Member.TheVariants as members
use Rattle.order_member.specs.declared.fault.OrderFault.{OrderFault}
use Rattle.order_member.specs.declared.fault.OrderFault.TheVariants.{Kind, Geometry}
use Rattle.order_rule.proofs.SignedLemmas.{between}
use Rattle.order_rule.specs.Asked.{Asked}
use Rattle.order_rule.specs.Late.{may_be_late}
use Rattle.order_rule.specs.Offsets.{first_day, is_day, is_zone, last_day, offsets_of}
use Rattle.order_rule.specs.Rule.{IsOrder}
use Rattle.ring_survey.specs.Faults.{first_fault}
use Rattle.ring_survey.specs.Polygons.{Polygon}
use Rattle.ring_survey.specs.declared.faults.RegionFault.{RegionFault}
use Rattle.method_table.specs.declared.sun.SunChoice.{SunChoice}
use Rattle.year_table.specs.declared.zone.Zone.{Zone}

optional_ok : {A : Type 0} (absent : A) (read : Tree → Result A OrderFault) (P : A → Type 0) → P absent → ((t : Tree) (x : A) → read t ≡ Ok x → P x) → (r : Result (Option Tree) OrderFault) (x : A) → (r >>= or_absent absent read) ≡ Ok x → P x
optional_ok absent read P none some (Ok None) x e = (let same : absent ≡ x = cc in subst P same none)
optional_ok absent read P none some (Ok (Some t)) x e = some t x e
optional_ok absent read P none some (Err fault) x e = absurd cc

pub unless_refused_ok : (found polygons : List Polygon) (fault : Option RegionFault) → first_fault found ≡ fault → unless_refused found fault ≡ Ok polygons → first_fault polygons ≡ None
unless_refused_ok found polygons None is e = (let same : found ≡ polygons = cc in subst (λ p. first_fault p ≡ None) same is)
unless_refused_ok found polygons (Some fault) is e = absurd cc

pub sound_by : {A : Type 0} (o : Option A) (fault : OrderFault) (read : A → Option (List Polygon)) (polygons : List Polygon) → (ok_or o fault >>= λ x. (ok_or (read x) Geometry >>= district_of)) ≡ Ok polygons → first_fault polygons ≡ None
sound_by o fault read polygons e =
    let x = gave (ok_or o fault) (λ y. ok_or (read y) Geometry >>= district_of) polygons e in
    let found = gave (ok_or (read x.value) Geometry) district_of polygons x.rest in
    unless_refused_ok found.value polygons (first_fault found.value) refl found.rest

district_kept : (t : Tree) (polygons : List Polygon) → district_in t ≡ Ok polygons → first_fault polygons ≡ None
unfolding district_in
district_kept t polygons e = sound_by (object_in t) (Kind members.District) geometry_of polygons e

-- Orders.

pub record KeepsBasis (b : Basis) : Type 0 where
  day : is_day b.from_day ≡ true
  days : AreDays b.from_day b.days
  zone : is_zone b.zone ≡ true
  offsets : offsets_of b.zone b.from_day b.days ≡ Some b.offsets

basis_from : (f : ℤ) (n : ℕ) (m : Method) (a : Asr) (z : Zone) (o : List ℤ) (b : Basis) → record { from_day = f; days = n; method = m; asr = a; zone = z; offsets = o } ≡ b → is_day f ≡ true → AreDays f n → is_zone z ≡ true → offsets_of z f n ≡ Some o → KeepsBasis b
basis_from f n m a z o b same day days zone offsets =
    subst KeepsBasis same (record { day = day; days = days; zone = zone; offsets = offsets })

module _ (from : Result Tree OrderFault) (days : Result Tree OrderFault) (method : Result Method OrderFault) (asr : Result Asr OrderFault) (zone : Result Tree OrderFault) where
  abbrev with_zone : ℤ → ℕ → Method → Asr → Zone → Result Basis OrderFault
  with_zone f n m a z = offsets_in f n z >>= λ o. Ok (record { from_day = f; days = n; method = m; asr = a; zone = z; offsets = o })

  abbrev with_asr : ℤ → ℕ → Method → Asr → Result Basis OrderFault
  with_asr f n m a = (zone >>= zone_in) >>= with_zone f n m a

  abbrev with_method : ℤ → ℕ → Method → Result Basis OrderFault
  with_method f n m = asr >>= with_asr f n m

  abbrev with_days : ℤ → ℕ → Result Basis OrderFault
  with_days f n = method >>= with_method f n

  abbrev with_from : ℤ → Result Basis OrderFault
  with_from f = (days >>= days_in f) >>= with_days f

  basis_by : (b : Basis) → ((from >>= from_in) >>= with_from) ≡ Ok b → KeepsBasis b
  basis_by b e =
      let f = gave (from >>= from_in) with_from b e in
      let n = gave (days >>= days_in f.value) (with_days f.value) b f.rest in
      let m = gave method (with_method f.value n.value) b n.rest in
      let a = gave asr (with_asr f.value n.value m.value) b m.rest in
      let z = gave (zone >>= zone_in) (with_zone f.value n.value m.value a.value) b a.rest in
      let o = gave (offsets_in f.value n.value z.value) (λ o. Ok (record { from_day = f.value; days = n.value; method = m.value; asr = a.value; zone = z.value; offsets = o })) b z.rest in
      let ft = gave from from_in f.value f.first in
      let nt = gave days (days_in f.value) n.value n.first in
      let zt = gave zone zone_in z.value z.first in
      basis_from f.value n.value m.value a.value z.value o.value b (cc) (from_kept ft.value f.value ft.rest) (days_kept f.value nt.value n.value nt.rest) (zone_kept zt.value z.value zt.rest) (offsets_kept f.value n.value z.value o.value o.first)

pub basis_kept : (es : List Entry) (b : Basis) → basis_of es ≡ Ok b → KeepsBasis b
unfolding basis_of
basis_kept es b e =
    basis_by (needed members.From es) (needed members.Days es) (needed members.Method es >>= method_in) (needed members.Asr es >>= asr_in) (needed members.Zone es) b e

pub record KeepsExtras (method : Method) (x : Extras) : Type 0 where
  low : x.height ≤ 9000
  late : may_be_late method x.late ≡ true

-- what is beside, of its members
module _ (method : Method) (heights : Result ℕ OrderFault) (lates : Result (List (ℤ × ℤ)) OrderFault) (suns : Result SunChoice OrderFault) (nights : Result (Option NightRule) OrderFault) where
  abbrev with_night : ℕ → List (ℤ × ℤ) → SunChoice → Option NightRule → Result Extras OrderFault
  with_night h l s n = Ok (record { height = h; late = l; sun = s; night = n })

  abbrev with_sun : ℕ → List (ℤ × ℤ) → SunChoice → Result Extras OrderFault
  with_sun h l s = nights >>= with_night h l s

  abbrev with_late : ℕ → List (ℤ × ℤ) → Result Extras OrderFault
  with_late h l = suns >>= with_sun h l

  abbrev with_height : ℕ → Result Extras OrderFault
  with_height h = lates >>= with_late h

  pub extras_by : ((h : ℕ) → heights ≡ Ok h → h ≤ 9000) → ((l : List (ℤ × ℤ)) → lates ≡ Ok l → may_be_late method l ≡ true) → (x : Extras) → (heights >>= with_height) ≡ Ok x → KeepsExtras method x
  extras_by low late x e =
      let h = gave heights with_height x e in
      let l = gave lates (with_late h.value) x h.rest in
      let s = gave suns (with_sun h.value l.value) x l.rest in
      let n = gave nights (with_night h.value l.value s.value) x s.rest in
      let same : record { height = h.value; late = l.value; sun = s.value; night = n.value } ≡ x = cc in
      subst (KeepsExtras method) {x = record { height = h.value; late = l.value; sun = s.value; night = n.value }} same (record { low = low h.value h.first; late = late l.value l.first })

pub extras_kept : (method : Method) (es : List Entry) (x : Extras) → extras_of method es ≡ Ok x → KeepsExtras method x
unfolding extras_of
extras_kept method es x e =
    extras_by method (height_of es) (reading.late_of method es) (reading.sun_of es) (night_of es)
    (λ h. optional_ok 0 height_in (λ k. k ≤ 9000) (omega arith) height_kept (optional members.Height es) h)
    (λ l. optional_ok [] (late_in method) (λ k. may_be_late method k ≡ true) refl (late_kept method) (optional members.LateIsha es) l)
    x e

pub parts_kept : (b : Basis) (x : Extras) (polygons : List Polygon) (o : Asked) → KeepsBasis b → KeepsExtras b.method x → first_fault polygons ≡ None → asked_by b x polygons ≡ o → IsOrder o
parts_kept b x polygons o basis extras sound same =
    subst IsOrder same (record {
      not_early = (between first_day last_day b.from_day basis.day).0;
      not_late = basis.days.late;
      some_days = basis.days.some;
      few_days = basis.days.few;
      known_zone = basis.zone;
      offset_each = basis.offsets;
      low = extras.low;
      late_in_range = extras.late;
      sound = sound;
    })

members_kept : (es : List Entry) (o : Asked) → order_of es ≡ Ok o → IsOrder o
unfolding order_of
members_kept es o e =
    let b = gave (basis_of es) (λ b. extras_of b.method es >>= λ x. (needed members.District es >>= district_in) >>= λ p. Ok (asked_by b x p)) o e in
    let x = gave (extras_of b.value.method es) (λ x. (needed members.District es >>= district_in) >>= λ p. Ok (asked_by b.value x p)) o b.rest in
    let p = gave (needed members.District es >>= district_in) (λ p. Ok (asked_by b.value x.value p)) o x.rest in
    let t = gave (needed members.District es) district_in p.value p.first in
    parts_kept b.value x.value p.value o (basis_kept es b.value b.first) (extras_kept b.value.method es x.value x.first) (district_kept t.value p.value t.rest) cc

-- what is read as an order is one
pub order_kept : (t : Tree) (o : Asked) → order_in t ≡ Ok o → IsOrder o
unfolding order_in
order_kept t o e = (let es = gave (ok_or (object_in t) (Kind members.Order)) order_of o e in members_kept es.value o es.rest)

pub kept_by : (reading : Tree → Result Asked OrderFault) → ((t : Tree) (o : Asked) → reading t ≡ Ok o → IsOrder o) → (r : Result Tree JsonFault) (o : Asked) → Ok o ≡ answer_by reading r → IsOrder o
kept_by reading kept (Ok t) o e = kept t o (sym e)
kept_by reading kept (Err fault) o e = absurd cc

pub orders_keep_the_rule : OrdersKeepTheRule
orders_keep_the_rule bytes o read = kept_by order_in order_kept read.0 o read.2
