-- Skies over the districts of a set, one after another, and their one root.
use Rattle.std.proofs.Common.{◌≡◌, List, [], ◌∷◌, ◌++◌, length, map, drop, sym, ap, ◌∙◌, append_assoc}
use Rattle.std.specs.List.{AllByRecursion as Every}
use Rattle.std.proofs.lemmas.List.{length-map, map-append}
use Rattle.std.proofs.lemmas.List.Elements.{All-from_recursion, All-nil}
use Rattle.cell_judge.specs.declared.sky.Sky.{Sky}
use Rattle.cell_split.specs.declared.cell.Cell.{Cell}
use Rattle.cell_split.proofs.Every.{Every-weaker}
use Rattle.ring_survey.specs.Polygons.{Polygon}
use Rattle.method_table.specs.declared.sun.SunChoice.{SunChoice}
use Rattle.set_search.specs.Scopes.{HaveOneRoot, Scope, first_root, scope_of, scope_over}

pub one_each : (sun : SunChoice) (root : Cell) (skies : List Sky) (parts : List (List Polygon)) → map scope_of skies ≡ map (scope_over sun root) parts → length skies ≡ length parts
one_each sun root skies parts are = sym (length-map skies scope_of) ∙ ap length are ∙ length-map parts (scope_over sun root)

-- one sky more, for the first of the districts that are left
pub skies_more : (sun : SunChoice) (root : Cell) (found : List Sky) (sky : Sky) (part : List Polygon) (left rest : List (List Polygon)) (all : List Scope) →
    left ≡ part ∷ rest → scope_of sky ≡ scope_over sun root part → map scope_of found ++ map (scope_over sun root) left ≡ all →
    map scope_of (found ++ sky ∷ []) ++ map (scope_over sun root) rest ≡ all
skies_more sun root found sky part left rest all is_left is_sky so_far =
    let tail = map (scope_over sun root) rest in
    ap (λ (s : List Scope). s ++ tail) (map-append scope_of found (sky ∷ [])) ∙ append_assoc (map scope_of found) (scope_of sky ∷ []) tail
    ∙ ap (λ (s : Scope). map scope_of found ++ (s ∷ tail)) is_sky
    ∙ ap (λ (ps : List (List Polygon)). map scope_of found ++ map (scope_over sun root) ps) (sym is_left) ∙ so_far

-- the root of the first scope, where there is one
abbrev first_of : Cell → List Scope → Cell
first_of root [] = root
first_of root (scope ∷ rest) = scope.root

each_root : (sun : SunChoice) (root : Cell) (skies : List Sky) (parts : List (List Polygon)) → map scope_of skies ≡ map (scope_over sun root) parts →
    Every (λ (sky : Sky). sky.root ≡ root) skies
each_root sun root [] parts are = tt
each_root sun root (sky ∷ skies) [] are = absurd cc
each_root sun root (sky ∷ skies) (part ∷ parts) are = (ap (first_of root) are, each_root sun root skies parts (ap (drop 1) are))

one_root_of : (root : Cell) (skies : List Sky) → Every (λ (sky : Sky). sky.root ≡ root) skies → HaveOneRoot skies
one_root_of root [] own = All-nil (λ (sky : Sky). sky.root ≡ first_root [])
one_root_of root (sky ∷ skies) own =
    All-from_recursion (λ (other : Sky). other.root ≡ sky.root) (sky ∷ skies)
    (Every-weaker (λ (other : Sky). other.root ≡ root) (λ (other : Sky). other.root ≡ sky.root) (sky ∷ skies) (λ other is. is ∙ sym own.0) own)

pub one_root : (sun : SunChoice) (root : Cell) (skies : List Sky) (parts : List (List Polygon)) → map scope_of skies ≡ map (scope_over sun root) parts → HaveOneRoot skies
one_root sun root skies parts are = one_root_of root skies (each_root sun root skies parts are)
