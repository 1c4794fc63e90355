-- The version of an order's line is the least.
use Rattle.std.proofs.Common.{◌≡◌, ℕ, ◌≤◌, ◌&&◌, Bool, true, false, cond, nat_le, ℤ, pos, int_le, unsigned_abs, List, [], Option, Some, None, option_map, option_and_then, Result, Ok, refl, sym, subst, ◌∙◌, arith}
use Rattle.std.proofs.lemmas.Bool.{and_parts}
use Rattle.std.proofs.lemmas.Bool.Decides.{nat_tests}
use Rattle.std.proofs.lemmas.Int.{ints}
use Rattle.std.specs.Option.{ok_or}
use Rattle.json_value.specs.Tree.{Tree, Entry}
use Rattle.night_rule.specs.declared.rule.NightRule.{NightRule}
use Rattle.order_member.proofs.GivenSteps.{gave}
use Rattle.order_rule.specs.Asked.{Asked}
use Rattle.exact_decimal.specs.Micro.{whole_of}
use Rattle.method_table.specs.declared.method.Method.{Method}
use Rattle.order_member.specs.Gives.{◌>>=◌}
use Rattle.geo_json.specs.Lookup.{number_in, object_in}
use Rattle.order_member.specs.Members.{height_in, late_in, rule_in, sun_in, whole_within}
use Rattle.order_member.specs.Standing.{needed}
use Rattle.order_reader.specs.Reading.{Basis, Extras, asked_by, basis_of}
use Rattle.order_member.specs.declared.fault.Member.{Member}
use Rattle.order_member.specs.declared.fault.Member.TheVariants as members
use Rattle.order_member.specs.declared.fault.OrderFault.{OrderFault}
use Rattle.order_member.specs.declared.fault.OrderFault.TheVariants.{Kind, Range}
use Rattle.order_text.specs.Line.{is_plain, version_by, version_of}
use Rattle.order_text.specs.LineLaws.{VersionsAreLeast}
use Rattle.order_text.specs.LineReading.{line_district, line_extras_of, line_order_in, line_order_of, since, version_in}
use Rattle.ring_survey.specs.Polygons.{Polygon}
use Rattle.method_table.specs.declared.sun.SunChoice.{SunChoice}
use Rattle.method_table.specs.declared.sun.SunChoice.TheVariants.{Usno, Meeus}

ok_same : {A : Type 0} (a b : A) → ◌≡◌ {A = Result A OrderFault} (Ok a) (Ok b) → a ≡ b
ok_same a b h = cc

-- Versions.

pub at_most_four : (plain : Bool) (sun : SunChoice) (night : Option NightRule) → version_by plain sun night ≤ 4
at_most_four plain sun (Some rule) = omega arith
at_most_four plain Meeus None = omega arith
at_most_four true Usno None = omega arith
at_most_four false Usno None = omega arith

at_most_three : (plain : Bool) (sun : SunChoice) → version_by plain sun None ≤ 3
at_most_three plain Meeus = omega arith
at_most_three true Usno = omega arith
at_most_three false Usno = omega arith

at_most_two : (plain : Bool) → version_by plain Usno None ≤ 2
at_most_two true = omega arith
at_most_two false = omega arith

from_one_by : (n : ℤ) (v : ℕ) (e : OrderFault) (t : Bool) → (int_le (pos 1) n && int_le n (pos 4)) ≡ t → ok_or (option_map unsigned_abs (cond t (Some n) None)) e ≡ Ok v → 1 ≤ v
from_one_by n v e true fits h =
    let low : int_le (pos 1) n ≡ true = (and_parts (int_le (pos 1) n) (int_le n (pos 4)) fits).0 in
    let same : unsigned_abs n ≡ v = cc in
    omega (arith, ints)
from_one_by n v e false fits h = cc

from_one : (w : Option ℤ) (v : ℕ) (e : OrderFault) → ok_or (option_map unsigned_abs (option_and_then (λ n. cond (int_le (pos 1) n && int_le n (pos 4)) (Some n) None) w)) e ≡ Ok v → 1 ≤ v
from_one None v e h = cc
from_one (Some n) v e h = from_one_by n v e (int_le (pos 1) n && int_le n (pos 4)) refl h

version_from_one : (t : Tree) (version : ℕ) → version_in t ≡ Ok version → 1 ≤ version
unfolding version_in
version_from_one t version h =
    let g = gave (ok_or (number_in t) (Kind members.Version)) (λ number. ok_or (option_map unsigned_abs (whole_within (pos 1) (pos 4) number)) (Range members.Version)) version h in
    from_one (whole_of g.value) version (Range members.Version) g.rest

-- A member that a version lacks.

lacks_by : {A : Type 0} (absent : A) (r : Result A OrderFault) (stands : Bool) (x : A) → stands ≡ false → cond stands r (Ok absent) ≡ Ok x → x ≡ absent
lacks_by absent r true x lacks e = cc
lacks_by absent r false x lacks e = sym (ok_same absent x e)

lacks : {A : Type 0} (first : ℕ) (m : Member) (absent : A) (read : Tree → Result A OrderFault) (version : ℕ) (es : List Entry) (x : A) → since first m absent read version es ≡ Ok x → nat_le first version ≡ false → x ≡ absent
lacks first m absent read version es x e lacking = lacks_by absent (needed m es >>= read) (nat_le first version) x lacking e

-- what the members of a line are by its version
record IsBeside (version : ℕ) (x : Extras) : Type 0 where
  height : nat_le 2 version ≡ false → x.height ≡ 0
  late : nat_le 2 version ≡ false → x.late ≡ []
  sun : nat_le 3 version ≡ false → x.sun ≡ Usno
  night : nat_le 4 version ≡ false → x.night ≡ None

module _ (version : ℕ) (method : Method) (es : List Entry) where
  abbrev with_night : ℕ → List (ℤ × ℤ) → SunChoice → Option NightRule → Result Extras OrderFault
  with_night h l s n = Ok (record { height = h; late = l; sun = s; night = n })

  abbrev with_sun : ℕ → List (ℤ × ℤ) → SunChoice → Result Extras OrderFault
  with_sun h l s = since 4 members.Night None rule_in version es >>= with_night h l s

  abbrev with_late : ℕ → List (ℤ × ℤ) → Result Extras OrderFault
  with_late h l = since 3 members.Sun Usno sun_in version es >>= with_sun h l

  abbrev with_height : ℕ → Result Extras OrderFault
  with_height h = since 2 members.LateIsha [] (late_in method) version es >>= with_late h

  beside : (x : Extras) → line_extras_of version method es ≡ Ok x → IsBeside version x
  unfolding line_extras_of
  beside x e =
      let h = gave (since 2 members.Height 0 height_in version es) with_height x e in
      let l = gave (since 2 members.LateIsha [] (late_in method) version es) (with_late h.value) x h.rest in
      let s = gave (since 3 members.Sun Usno sun_in version es) (with_sun h.value l.value) x l.rest in
      let n = gave (since 4 members.Night None rule_in version es) (with_night h.value l.value s.value) x s.rest in
      let same : record { height = h.value; late = l.value; sun = s.value; night = n.value } ≡ x = ok_same _ x n.rest in
      subst (IsBeside version) same (record {
        height = lacks 2 members.Height 0 height_in version es h.value h.first;
        late = lacks 2 members.LateIsha [] (late_in method) version es l.value l.first;
        sun = lacks 3 members.Sun Usno sun_in version es s.value s.first;
        night = lacks 4 members.Night None rule_in version es n.value n.first;
      })

-- the least version of what is beside
abbrev version_with : Extras → ℕ
version_with x = version_by (is_plain x.height x.late) x.sun x.night

least_by : (version : ℕ) (x : Extras) (second third fourth : Bool) → nat_le 2 version ≡ second → nat_le 3 version ≡ third → nat_le 4 version ≡ fourth → IsBeside version x → 1 ≤ version → version_with x ≤ version
least_by version x second third true a b c is some =
    let four : 4 ≤ version = grind (arith, nat_tests) in
    omega (arith, at_most_four (is_plain x.height x.late) x.sun x.night)
least_by version x second true false a b c is some =
    let three : 3 ≤ version = grind (arith, nat_tests) in
    rw (is.night c) (omega (arith, at_most_three (is_plain x.height x.late) x.sun))
least_by version x true false false a b c is some =
    let two : 2 ≤ version = grind (arith, nat_tests) in
    rw (is.night c, is.sun b) (omega (arith, at_most_two (is_plain x.height x.late)))
least_by version x false false false a b c is some = rw (is.night c, is.sun b, is.height a, is.late a) some

-- the parts of a line that is read
record Parts (stated : Result ℕ OrderFault) (extras : ℕ → Method → Result Extras OrderFault) (o : Asked) : Type 0 where
  pub version : ℕ
  pub basis : Basis
  pub beside : Extras
  pub polygons : List Polygon
  pub states : stated ≡ Ok version
  pub adds : extras version basis.method ≡ Ok beside
  pub is : asked_by basis beside polygons ≡ o

parts_of : (stated : Result ℕ OrderFault) (bases : Result Basis OrderFault) (extras : ℕ → Method → Result Extras OrderFault) (district : Result (List Polygon) OrderFault) (o : Asked)
    → (stated >>= λ version. bases >>= λ basis. extras version basis.method >>= λ beside. district >>= λ polygons. Ok (asked_by basis beside polygons)) ≡ Ok o
    → Parts stated extras o
parts_of stated bases extras district o h =
    let v = gave stated (λ version. bases >>= λ basis. extras version basis.method >>= λ beside. district >>= λ polygons. Ok (asked_by basis beside polygons)) o h in
    let b = gave bases (λ basis. extras v.value basis.method >>= λ beside. district >>= λ polygons. Ok (asked_by basis beside polygons)) o v.rest in
    let x = gave (extras v.value b.value.method) (λ beside. district >>= λ polygons. Ok (asked_by b.value beside polygons)) o b.rest in
    let p = gave district (λ polygons. Ok (asked_by b.value x.value polygons)) o x.rest in
    let is : asked_by b.value x.value p.value ≡ o = ok_same (asked_by b.value x.value p.value) o p.rest in
    record { version = v.value; basis = b.value; beside = x.value; polygons = p.value; states = v.first; adds = x.first; is = is }

least_of : (es : List Entry) (o : Asked) (version : ℕ) → (needed members.Version es >>= version_in) ≡ Ok version → line_order_of es ≡ Ok o → version_of o ≤ version
unfolding line_order_of
least_of es o version stated read =
    let parts = parts_of (needed members.Version es >>= version_in) (basis_of es) (λ v m. line_extras_of v m es) (needed members.District es >>= line_district) o read in
    let same : parts.version ≡ version = ok_same parts.version version (sym parts.states ∙ stated) in
    let value = gave (needed members.Version es) version_in version stated in
    let some = version_from_one value.value version value.rest in
    let adds : line_extras_of version parts.basis.method es ≡ Ok parts.beside = subst (λ v. line_extras_of v parts.basis.method es ≡ Ok parts.beside) same parts.adds in
    let least = least_by version parts.beside (nat_le 2 version) (nat_le 3 version) (nat_le 4 version) refl refl refl (beside version parts.basis.method es parts.beside adds) some in
    subst (λ (a : Asked). version_of a ≤ version) parts.is least

pub versions_are_least : VersionsAreLeast
unfolding line_order_in
versions_are_least t o version stated read =
    let es = gave (ok_or (object_in t) (Kind members.Order)) (λ es. needed members.Version es >>= version_in) version stated in
    let again = gave (ok_or (object_in t) (Kind members.Order)) line_order_of o read in
    let same : again.value ≡ es.value = ok_same again.value es.value (sym again.first ∙ es.first) in
    least_of es.value o version es.rest (subst (λ (e : List Entry). line_order_of e ≡ Ok o) same again.rest)
