-- The items of a list and the members of an object, one after another.
use Rattle.std.proofs.Common.{◌≡◌, ℕ, zero, suc, ◌+◌, ◌≤◌, true, false, cond, List, [], ◌∷◌, length, drop, Some, option_map, refl, ap, ◌∙◌, add-one, arith, rules, bytes_eq}
use Rattle.std.specs.List.{slice_get}
use Rattle.json_value.specs.Tree.{Tree, no_item, no_pair, Entry, items_before, pairs_before, list_of, table_of}
use Rattle.json_value.specs.View.{tree_of, items_of, entries_of}
use Rattle.json_value.specs.declared.value.Json.{the_lemmas}
use Rattle.json_value.specs.declared.value.Json.TheVariants as json
use Rattle.json_value.specs.declared.value.JsonList.{JsonList}
use Rattle.json_value.specs.declared.value.JsonTable.{JsonTable}
use Rattle.geo_json.specs.Lookup.{items_in, entries_in, list_in, object_in, values_named, Found, absent, once, again, found_among}
use Rattle.geo_json.specs.Seen.{with_more}

pub items_in_before : (ts : List Tree) → items_in (items_before ts no_item) ≡ ts
items_in_before [] = refl
items_in_before (t ∷ ts) = ap (λ us. t ∷ us) (items_in_before ts)

pub entries_in_before : (es : List Entry) → entries_in (pairs_before es no_pair) ≡ es
entries_in_before [] = refl
entries_in_before (e ∷ es) = ap (λ fs. e ∷ fs) (entries_in_before es)

pub items_in_list : (l : JsonList) → list_in (tree_of (json.List l)) ≡ Some (items_of l)
items_in_list l =
    let is : tree_of (json.List l) ≡ list_of (items_of l) = search (rules, the_lemmas) in
    ap list_in is ∙ ap Some (items_in_before (items_of l))

pub entries_in_table : (t : JsonTable) → object_in (tree_of (json.Table t)) ≡ Some (entries_of t)
entries_in_table t =
    let is : tree_of (json.Table t) ≡ table_of (entries_of t) = search (rules, the_lemmas) in
    ap object_in is ∙ ap Some (entries_in_before (entries_of t))

-- what is found with more values after it
abbrev pub and_more : Found → List Tree → Found
and_more absent ts = found_among ts
and_more (once t) ts = found_among (t ∷ ts)
and_more again ts = again

pub and_one_more : (f : Found) (t : Tree) (ts : List Tree) → and_more f (t ∷ ts) ≡ and_more (with_more f t) ts
and_one_more absent t ts = refl
and_one_more (once u) t ts = refl
and_one_more again t ts = refl

pub and_none : (f : Found) → and_more f [] ≡ f
and_none absent = refl
and_none (once t) = refl
and_none again = refl

-- the values with a name from a place on
pub values_at : (name : List ℕ) (es : List Entry) (i : ℕ) (n : List ℕ) (t : Tree) → option_map (λ e. e.name) (slice_get es i) ≡ Some n → option_map (λ e. e.value) (slice_get es i) ≡ Some t → values_named name (drop i es) ≡ cond (bytes_eq n name) (t ∷ values_named name (drop (i + 1) es)) (values_named name (drop (i + 1) es))
unfolding values_named
values_at name [] i n t = λ e h. cc
values_at name (x ∷ es) zero n t = λ e h.
    let en : x.name ≡ n = cc in
    let et : x.value ≡ t = cc in
    rw (en, et) refl
values_at name (x ∷ es) (suc i) n t = λ e h. rw add-one (values_at name es i n t e h ∙ rw add-one refl)

-- a member with the name, and one with another
pub found_at : (f : Found) (name : List ℕ) (es : List Entry) (i : ℕ) (n : List ℕ) (t : Tree) → option_map (λ e. e.name) (slice_get es i) ≡ Some n → option_map (λ e. e.value) (slice_get es i) ≡ Some t → bytes_eq n name ≡ true → and_more f (values_named name (drop i es)) ≡ and_more (with_more f t) (values_named name (drop (i + 1) es))
found_at f name es i n t e h b = rw (values_at name es i n t e h, b) (and_one_more f t (values_named name (drop (i + 1) es)))

-- the values go on after a member with another name
pub values_past : (name : List ℕ) (es : List Entry) (i : ℕ) (n : List ℕ) → option_map (λ e. e.name) (slice_get es i) ≡ Some n → bytes_eq n name ≡ false → values_named name (drop i es) ≡ values_named name (drop (i + 1) es)
unfolding values_named
values_past name [] i n = λ e b. cc
values_past name (x ∷ es) zero n = λ e b. let en : x.name ≡ n = cc in rw (en, b) refl
values_past name (x ∷ es) (suc i) n = λ e b. values_past name es i n e b ∙ rw (add-one, add-one) refl

pub missed_at : (f : Found) (name : List ℕ) (es : List Entry) (i : ℕ) (n : List ℕ) → option_map (λ e. e.name) (slice_get es i) ≡ Some n → bytes_eq n name ≡ false → and_more f (values_named name (drop i es)) ≡ and_more f (values_named name (drop (i + 1) es))
missed_at f name es i n e b = ap (and_more f) (values_past name es i n e b)

pub none_past : (name : List ℕ) (es : List Entry) (i : ℕ) → length es ≤ i → values_named name (drop i es) ≡ []
unfolding values_named
none_past name [] zero h = refl
none_past name [] (suc i) h = refl
none_past name (x ∷ es) zero h = absurd (omega arith)
none_past name (x ∷ es) (suc i) h = none_past name es i (omega arith)

pub found_all : (f : Found) (name : List ℕ) (es : List Entry) (i : ℕ) → length es ≤ i → and_more f (values_named name (drop i es)) ≡ f
found_all f name es i h = ap (and_more f) (none_past name es i h) ∙ and_none f
