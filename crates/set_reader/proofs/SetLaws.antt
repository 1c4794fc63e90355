-- What reading sets answers.
use Rattle.std.proofs.Common.{◌≡◌, refl, sym, subst, List, Option, Some, None, Result, Ok, Err}
use Rattle.std.specs.Option.{ok_or}
use Rattle.json_value.specs.Tree.{Tree, Entry}
use Rattle.exact_json.specs.declared.fault.JsonFault.{JsonFault}
use Rattle.night_rule.specs.declared.rule.NightRule.{NightRule}
use Rattle.order_member.proofs.GivenSteps.{gave}
use Rattle.order_reader.proofs.ReadLaws.{answers_agree, some_answer}
use Rattle.order_member.proofs.MembersKept.{or_ok}
use Rattle.order_reader.proofs.RuleKept.{basis_kept, extras_kept, parts_kept}
use Rattle.order_member.specs.Gives.{◌>>=◌}
use Rattle.geo_json.specs.Lookup.{object_in}
use Rattle.order_member.specs.Standing.{needed}
use Rattle.order_reader.specs.Reading.{Basis, Extras, asked_by, basis_of, district_of, extras_of}
use Rattle.order_reader.specs.Reads.{answer_by}
use Rattle.order_member.specs.declared.fault.Member.TheVariants as members
use Rattle.order_member.specs.declared.fault.OrderFault.{OrderFault}
use Rattle.order_member.specs.declared.fault.OrderFault.TheVariants.{Geometry, Kind}
use Rattle.ring_survey.specs.Faults.{first_fault}
use Rattle.ring_survey.specs.Polygons.{Polygon}
use Rattle.set_reader.proofs.PartsLemmas.{are_parts, is_district}
use Rattle.set_reader.specs.Asked.{SetAsked}
use Rattle.set_reader.specs.Features.{features_of, polygons_of}
use Rattle.set_reader.specs.Reading.{Districts, districts_in, parts_of, set_in, set_of, without_rule}
use Rattle.set_reader.specs.Reads.{EveryTextIsASetOrRefused, SetReadingsAgree, SetsKeepTheRule}
use Rattle.set_reader.specs.Rule.{IsSet}
use Rattle.set_reader.specs.Together.{AreParts}

pub set_readings_agree : SetReadingsAgree
set_readings_agree bytes x y = answers_agree set_in bytes x y

pub every_text_is_a_set_or_refused : EveryTextIsASetOrRefused
every_text_is_a_set_or_refused bytes = some_answer set_in bytes

-- The rule of every set.

record KeepsDistricts (d : Districts) : Type 0 where
  parts : AreParts d.whole d.parts
  sound : first_fault d.whole ≡ None

-- the steps after the Features
abbrev with_whole : List (List Polygon) → List Polygon → Result Districts OrderFault
with_whole parts whole = Ok (record { whole = whole; parts = parts })

abbrev with_parts : List (List Polygon) → List (List Polygon) → Result Districts OrderFault
with_parts features parts = district_of (polygons_of features) >>= with_whole parts

abbrev with_features : List (List Polygon) → Result Districts OrderFault
with_features features = parts_of features >>= with_parts features

abbrev with_entries : List Entry → Result Districts OrderFault
with_entries es = ok_or (features_of es) Geometry >>= with_features

districts_kept : (t : Tree) (d : Districts) → districts_in t ≡ Ok d → KeepsDistricts d
unfolding districts_in
districts_kept t d e =
    let es = gave (ok_or (object_in t) (Kind members.District)) with_entries d e in
    let features = gave (ok_or (features_of es.value) Geometry) with_features d es.rest in
    let parts = gave (parts_of features.value) (with_parts features.value) d features.rest in
    let whole = gave (district_of (polygons_of features.value)) (with_whole parts.value) d parts.rest in
    let found = or_ok (features_of es.value) Geometry features.value features.first in
    let same : record { whole = whole.value; parts = parts.value } ≡ d = cc in
    subst KeepsDistricts same (record {
      parts = are_parts es.value features.value parts.value whole.value found parts.first whole.first;
      sound = (is_district (polygons_of features.value) whole.value whole.first).sound;
    })

none_there : (night : Option NightRule) (x : Unit {0}) → without_rule night ≡ Ok x → night ≡ None
none_there None x e = refl
none_there (Some rule) x e = absurd cc

module _ (es : List Entry) where
  abbrev with_districts : Basis → Extras → Districts → Result SetAsked OrderFault
  with_districts b x d = Ok (record { whole = asked_by b x d.whole; parts = d.parts })

  abbrev with_none : Basis → Extras → Unit {0} → Result SetAsked OrderFault
  with_none b x none = (needed members.District es >>= districts_in) >>= with_districts b x

  abbrev with_extras : Basis → Extras → Result SetAsked OrderFault
  with_extras b x = without_rule x.night >>= with_none b x

  abbrev with_basis : Basis → Result SetAsked OrderFault
  with_basis b = extras_of b.method es >>= with_extras b

  members_kept : (s : SetAsked) → set_of es ≡ Ok s → IsSet s
  unfolding set_of
  members_kept s e =
      let b = gave (basis_of es) with_basis s e in
      let x = gave (extras_of b.value.method es) (with_extras b.value) s b.rest in
      let n = gave (without_rule x.value.night) (with_none b.value x.value) s x.rest in
      let d = gave (needed members.District es >>= districts_in) (with_districts b.value x.value) s n.rest in
      let t = gave (needed members.District es) districts_in d.value d.first in
      let kept = districts_kept t.value d.value t.rest in
      let order = parts_kept b.value x.value d.value.whole (asked_by b.value x.value d.value.whole) (basis_kept es b.value b.first) (extras_kept b.value.method es x.value x.first) kept.sound (refl {a = asked_by b.value x.value d.value.whole}) in
      let same : record { whole = asked_by b.value x.value d.value.whole; parts = d.value.parts } ≡ s = cc in
      subst IsSet {x = record { whole = asked_by b.value x.value d.value.whole; parts = d.value.parts }} same (record { order = order; no_rule = none_there x.value.night n.value n.first; parts = kept.parts })

set_kept : (t : Tree) (s : SetAsked) → set_in t ≡ Ok s → IsSet s
unfolding set_in
set_kept t s e = (let es = gave (ok_or (object_in t) (Kind members.Order)) set_of s e in members_kept es.value s es.rest)

kept_by : (r : Result Tree JsonFault) (s : SetAsked) → Ok s ≡ answer_by set_in r → IsSet s
kept_by (Ok t) s e = set_kept t s (sym e)
kept_by (Err fault) s e = absurd cc

pub sets_keep_the_rule : SetsKeepTheRule
sets_keep_the_rule bytes s read = kept_by read.0 s read.2
