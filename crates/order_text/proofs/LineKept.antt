-- What is read as a canonical line keeps the rule of every order.
use Rattle.std.proofs.Common.{◌≡◌, refl, subst, ℕ, ◌≤◌, Bool, true, false, cond, List, [], None, Result, Ok, arith}
use Rattle.std.specs.Prelude.{nat_le}
use Rattle.std.specs.Option.{ok_or}
use Rattle.json_value.specs.Tree.{Tree, Entry}
use Rattle.method_table.specs.declared.method.Method.{Method}
use Rattle.order_member.proofs.GivenSteps.{gave}
use Rattle.order_member.proofs.MembersKept.{height_kept, late_kept}
use Rattle.order_reader.proofs.RuleKept.{KeepsExtras, basis_kept, extras_by, kept_by, parts_kept, sound_by}
use Rattle.geo_json.specs.Geometry.{line_district_of}
use Rattle.order_member.specs.Gives.{◌>>=◌}
use Rattle.geo_json.specs.Lookup.{list_in, object_in}
use Rattle.order_member.specs.Members.{height_in, late_in, rule_in, sun_in}
use Rattle.order_member.specs.Standing.{needed}
use Rattle.order_reader.specs.Reading.{Extras, asked_by, basis_of}
use Rattle.order_member.specs.declared.fault.Member.TheVariants as members
use Rattle.order_member.specs.declared.fault.OrderFault.{OrderFault}
use Rattle.order_member.specs.declared.fault.OrderFault.TheVariants.{Kind}
use Rattle.order_rule.specs.Asked.{Asked}
use Rattle.order_rule.specs.Late.{may_be_late}
use Rattle.order_rule.specs.Rule.{IsOrder}
use Rattle.order_text.specs.LineLaws.{LinesKeepTheRule}
use Rattle.order_text.specs.LineReading.{line_district, line_extras_of, line_order_in, line_order_of, since, version_in}
use Rattle.ring_survey.specs.Faults.{first_fault}
use Rattle.ring_survey.specs.Polygons.{Polygon}
use Rattle.method_table.specs.declared.sun.SunChoice.TheVariants.{Usno}

since_ok : {A : Type 0} (absent : A) (read : Tree → Result A OrderFault) (P : A → Type 0) → P absent → ((t : Tree) (x : A) → read t ≡ Ok x → P x) → (r : Result Tree OrderFault) (stands : Bool) (x : A) → cond stands (r >>= read) (Ok absent) ≡ Ok x → P x
since_ok absent read P none some r true x e = (let t = gave r read x e in some t.value x t.rest)
since_ok absent read P none some r false x e = (let same : absent ≡ x = cc in subst P same none)

line_district_kept : (t : Tree) (polygons : List Polygon) → line_district t ≡ Ok polygons → first_fault polygons ≡ None
unfolding line_district
line_district_kept t polygons e = sound_by (list_in t) (Kind members.District) line_district_of polygons e

line_extras_kept : (version : ℕ) (method : Method) (es : List Entry) (x : Extras) → line_extras_of version method es ≡ Ok x → KeepsExtras method x
unfolding line_extras_of
line_extras_kept version method es x e =
    extras_by method (since 2 members.Height 0 height_in version es) (since 2 members.LateIsha [] (late_in method) version es) (since 3 members.Sun Usno sun_in version es) (since 4 members.Night None rule_in version es)
    (λ h. since_ok 0 height_in (λ k. k ≤ 9000) (omega arith) height_kept (needed members.Height es) (nat_le 2 version) h)
    (λ l. since_ok [] (late_in method) (λ k. may_be_late method k ≡ true) refl (late_kept method) (needed members.LateIsha es) (nat_le 2 version) l)
    x e

line_members_kept : (es : List Entry) (o : Asked) → line_order_of es ≡ Ok o → IsOrder o
unfolding line_order_of
line_members_kept es o e =
    let v = gave (needed members.Version es >>= version_in) (λ v. basis_of es >>= λ b. line_extras_of v b.method es >>= λ x. (needed members.District es >>= line_district) >>= λ p. Ok (asked_by b x p)) o e in
    let b = gave (basis_of es) (λ b. line_extras_of v.value b.method es >>= λ x. (needed members.District es >>= line_district) >>= λ p. Ok (asked_by b x p)) o v.rest in
    let x = gave (line_extras_of v.value b.value.method es) (λ x. (needed members.District es >>= line_district) >>= λ p. Ok (asked_by b.value x p)) o b.rest in
    let p = gave (needed members.District es >>= line_district) (λ p. Ok (asked_by b.value x.value p)) o x.rest in
    let t = gave (needed members.District es) line_district p.value p.first in
    parts_kept b.value x.value p.value o (basis_kept es b.value b.first) (line_extras_kept v.value b.value.method es x.value x.first) (line_district_kept t.value p.value t.rest) cc

line_kept : (t : Tree) (o : Asked) → line_order_in t ≡ Ok o → IsOrder o
unfolding line_order_in
line_kept t o e = (let es = gave (ok_or (object_in t) (Kind members.Order)) line_order_of o e in line_members_kept es.value o es.rest)

pub lines_keep_the_rule : LinesKeepTheRule
lines_keep_the_rule bytes o read = kept_by line_order_in line_kept read.0 o read.2
