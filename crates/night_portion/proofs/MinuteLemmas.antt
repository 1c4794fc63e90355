-- The minutes of a night, from those of its rows.
use Rattle.std.proofs.Common.{◌≡◌, ◌∙◌, ℕ, zero, suc, ◌<◌, ℤ, List, [], ◌∷◌, length, map, get_or, Option, ap₂, refl, sym, arith}
use Rattle.std.proofs.lemmas.List.{get_or-map}
use Rattle.method_table.specs.declared.method.Method.{Method}
use Rattle.method_table.specs.declared.problem.Problem.{Problem}
use Rattle.method_table.specs.Row.{Row, row_of}
use Rattle.night_rule.specs.declared.rule.NightRule.{NightRule}
use Rattle.cell_split.specs.declared.verdict.Entry.{Entry}
use Rattle.night_portion.specs.Minutes.{Night, answered, fajr_by, fajr_minute, isha_by, isha_minute, portion_of, safe_minute}

-- what is read inside a list is the same whatever stands for what is past it
any_default : (entries : List Entry) (k : ℕ) (d e : Entry) → k < length entries → get_or entries k d ≡ get_or entries k e
any_default [] k d e inside = absurd (omega arith)
any_default (x ∷ xs) zero d e inside = refl
any_default (x ∷ xs) (suc k) d e inside = any_default xs k d e (omega arith)

-- a problem of a list with its entry
pub answered_is : (problems : List Problem) (entries : List Entry) (k : ℕ) (p : Problem) (e : Entry) → k < length problems → k < length entries →
    (row_of (get_or problems k p), get_or entries k e) ≡ answered (map row_of problems) entries k
answered_is problems entries k p e inside within = ap₂ (λ (r : Row) (x : Entry). (r, x)) (sym (get_or-map row_of problems k p _ inside)) (any_default entries k e _ within)

pub fajr_is : (rule : NightRule) (n : Night) (part : ℤ × ℤ) (f r s result : Option ℤ) → result ≡ fajr_by part f r s → part ≡ portion_of rule n.fajr →
    f ≡ safe_minute n.fajr → r ≡ safe_minute n.rise → s ≡ safe_minute n.set → result ≡ fajr_minute rule n
unfolding fajr_minute
fajr_is rule n part f r s result is is_part is_f is_r is_s = is ∙ rw (is_part, is_f, is_r, is_s) refl

pub isha_is : (rule : NightRule) (method : Method) (n : Night) (interval : ℤ) (part : ℤ × ℤ) (i r s result : Option ℤ) → result ≡ isha_by method interval part i r s →
    interval ≡ n.isha.0.shift → part ≡ portion_of rule n.isha → i ≡ safe_minute n.isha → r ≡ safe_minute n.rise → s ≡ safe_minute n.set →
    result ≡ isha_minute rule method n
unfolding isha_minute
isha_is rule method n interval part i r s result is is_interval is_part is_i is_r is_s = is ∙ rw (is_interval, is_part, is_i, is_r, is_s) refl
