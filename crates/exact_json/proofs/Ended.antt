-- A byte after a value has ended.
use Rattle.std.proofs.Common.{◌≡◌, ℕ, Bool, true, false, cond, List, [], ◌∷◌, ◌++◌, Option, Some, None, refl, sym, ap, subst, inl, inr, ◌==◌}
use Rattle.std.proofs.lemmas.Bool.{eqb-true}
use Rattle.json_character.specs.Ascii as ascii
use Rattle.json_character.specs.Ascii.{is_blank}
use Rattle.exact_json.specs.Limits.{Limits}
use Rattle.json_value.specs.Machine.{Frame, in_list, in_table, State, value, name, after_item, after_member, done, ended, step_ended}
use Rattle.json_value.specs.Tree.{Tree, list, table, Trees, item, no_item, Pairs, pair, no_pair, Entry, items_before, pairs_before, list_of, table_of}
use Rattle.exact_json.proofs.Left.{Closes, AfterItem, AfterMember, Completes, Goes, Comes}

-- one item or pair more before the others
pub items_before-more : (ts : List Tree) (v : Tree) (more : Trees) → items_before (ts ++ v ∷ []) more ≡ items_before ts (item v more)
items_before-more [] v more = refl
items_before-more (t ∷ ts) v more = ap (item t) (items_before-more ts v more)

pub pairs_before-more : (es : List Entry) (e : Entry) (more : Pairs) → pairs_before (es ++ e ∷ []) more ≡ pairs_before es (pair e.name e.value more)
pairs_before-more [] e more = refl
pairs_before-more (f ∷ es) e more = ap (pair f.name f.value) (pairs_before-more es e more)

-- a step by a test
pub comes_cond : (limits : Limits) (c : Bool) (x y : Option State) (t : Tree) (xs : List ℕ) (G : Type 0) → (c ≡ true → Comes limits x t xs G) → (c ≡ false → Comes limits y t xs G) → Comes limits (cond c x y) t xs G
comes_cond limits true x y t xs G f g = f refl
comes_cond limits false x y t xs G f g = g refl

pub comes_some : (limits : Limits) (m : State) (t : Tree) (xs : List ℕ) (G : Type 0) → (Completes limits m t xs → G) → Comes limits (Some m) t xs G
comes_some limits m t xs G f n e h = let same : m ≡ n = cc in f (subst (λ s. Completes limits s t xs) (sym same) h)

pub comes_none : (limits : Limits) (t : Tree) (xs : List ℕ) (G : Type 0) → Comes limits None t xs G
comes_none limits t xs G n e h = absurd (cc)

pub goes_true : (limits : Limits) (c : Bool) (x y : Option State) (t : Tree) (xs : List ℕ) → c ≡ true → Goes limits x t xs → Goes limits (cond c x y) t xs
goes_true limits c x y t xs e h = subst (λ b. Goes limits (cond b x y) t xs) (sym e) h

pub goes_false : (limits : Limits) (c : Bool) (x y : Option State) (t : Tree) (xs : List ℕ) → c ≡ false → Goes limits y t xs → Goes limits (cond c x y) t xs
goes_false limits c x y t xs e h = subst (λ b. Goes limits (cond b x y) t xs) (sym e) h

-- what may be left once a value has ended
pub ended-Closes : (limits : Limits) (frames : List Frame) (v t : Tree) (xs : List ℕ) → Closes limits frames v t xs → Completes limits (ended frames v) t xs
ended-Closes limits [] v t xs h = h
ended-Closes limits (in_list ts ∷ frames) v t xs h = h
ended-Closes limits (in_table es n ∷ frames) v t xs h = h

pub Closes-ended : (limits : Limits) (frames : List Frame) (v t : Tree) (xs : List ℕ) → Completes limits (ended frames v) t xs → Closes limits frames v t xs
Closes-ended limits [] v t xs h = h
Closes-ended limits (in_list ts ∷ frames) v t xs h = h
Closes-ended limits (in_table es n ∷ frames) v t xs h = h

-- the machine goes on wherever the grammar does
pub goes-after_item : (limits : Limits) (ts : List Tree) (frames : List Frame) (t : Tree) (b : ℕ) (xs : List ℕ) → AfterItem limits ts frames t (b ∷ xs) → Goes limits (step_ended (after_item ts frames) b) t xs
goes-after_item limits ts frames t b xs (no_item, ys, inr h, k) =
    goes_true limits _ _ _ t xs h.0 (after_item ts frames, refl, (no_item, ys, h.1, k))
goes-after_item limits ts frames t b xs (no_item, ys, inl h, k) =
    let left : Closes limits frames (list_of ts) t xs = subst (λ z. Closes limits frames (list_of ts) t z) (sym h.1) k in
    subst (λ c. Goes limits (step_ended (after_item ts frames) c) t xs) (sym h.0) (ended frames (list_of ts), refl, ended-Closes limits frames (list_of ts) t xs left)
goes-after_item limits ts frames t b xs (item v more, ys, (zs, inr h, m), k) =
    goes_true limits _ _ _ t xs h.0 (after_item ts frames, refl, (item v more, ys, (zs, h.1, m), k))
goes-after_item limits ts frames t b xs (item v more, ys, (zs, inl h, m), k) =
    let left : Closes limits (in_list ts ∷ frames) v t zs = (more, ys, m, subst (λ z. Closes limits frames (list z) t ys) (sym (items_before-more ts v more)) k) in
    subst (λ c. Goes limits (step_ended (after_item ts frames) c) t xs) (sym h.0) (value (in_list ts ∷ frames), refl, (v, zs, h.1, left))

pub goes-after_member : (limits : Limits) (es : List Entry) (frames : List Frame) (t : Tree) (b : ℕ) (xs : List ℕ) → AfterMember limits es frames t (b ∷ xs) → Goes limits (step_ended (after_member es frames) b) t xs
goes-after_member limits es frames t b xs (no_pair, ys, inr h, k) =
    goes_true limits _ _ _ t xs h.0 (after_member es frames, refl, (no_pair, ys, h.1, k))
goes-after_member limits es frames t b xs (no_pair, ys, inl h, k) =
    let left : Closes limits frames (table_of es) t xs = subst (λ z. Closes limits frames (table_of es) t z) (sym h.1) k in
    subst (λ c. Goes limits (step_ended (after_member es frames) c) t xs) (sym h.0) (ended frames (table_of es), refl, ended-Closes limits frames (table_of es) t xs left)
goes-after_member limits es frames t b xs (pair n v more, ys, (ns, zs, inr h, g, m), k) =
    goes_true limits _ _ _ t xs h.0 (after_member es frames, refl, (pair n v more, ys, (ns, zs, h.1, g, m), k))
goes-after_member limits es frames t b xs (pair n v more, ys, (ns, zs, inl h, g, m), k) =
    let left : AfterMember limits (es ++ record { name = n; value = v } ∷ []) frames t zs =
    (more, ys, m, subst (λ z. Closes limits frames (table z) t ys) (sym (pairs_before-more es (record { name = n; value = v }) more)) k) in
    subst (λ c. Goes limits (step_ended (after_member es frames) c) t xs) (sym h.0) (name es frames, refl, (n, ns, h.1, (v, zs, g, left)))

pub goes-ended : (limits : Limits) (frames : List Frame) (v t : Tree) (b : ℕ) (xs : List ℕ) → Closes limits frames v t (b ∷ xs) → Goes limits (step_ended (ended frames v) b) t xs
goes-ended limits [] v t b xs (e, inr h) = goes_true limits _ _ _ t xs h.0 (done v, refl, (e, h.1))
goes-ended limits [] v t b xs (e, inl h) = absurd h
goes-ended limits (in_list ts ∷ frames) v t b xs h = goes-after_item limits (ts ++ v ∷ []) frames t b xs h
goes-ended limits (in_table es n ∷ frames) v t b xs h = goes-after_member limits (es ++ record { name = n; value = v } ∷ []) frames t b xs h

-- the grammar goes on wherever the machine does
pub comes-after_item : (limits : Limits) (ts : List Tree) (frames : List Frame) (t : Tree) (b : ℕ) (xs : List ℕ) → Comes limits (step_ended (after_item ts frames) b) t xs (AfterItem limits ts frames t (b ∷ xs))
comes-after_item limits ts frames t b xs =
    comes_cond limits (is_blank b) _ _ t xs _
    (λ blank. comes_some limits (after_item ts frames) t xs _ (λ h. blanked blank h))
    (λ _. comes_cond limits (b == ascii.comma) _ _ t xs _
    (λ is. comes_some limits (value (in_list ts ∷ frames)) t xs _ (λ h. more_follow (eqb-true b ascii.comma is) h))
    (λ _. comes_cond limits (b == ascii.close_bracket) _ _ t xs _
    (λ is. comes_some limits (ended frames (list_of ts)) t xs _ (λ h. (no_item, xs, inl (eqb-true b ascii.close_bracket is, refl), Closes-ended limits frames (list_of ts) t xs h)))
    (λ _. comes_none limits t xs _)))
  where
    blanked : is_blank b ≡ true → AfterItem limits ts frames t xs → AfterItem limits ts frames t (b ∷ xs)
    blanked blank (no_item, ys, m, k) = (no_item, ys, inr (blank, m), k)
    blanked blank (item v more, ys, (zs, m, r), k) = (item v more, ys, (zs, inr (blank, m), r), k)

    more_follow : b ≡ ascii.comma → Completes limits (value (in_list ts ∷ frames)) t xs → AfterItem limits ts frames t (b ∷ xs)
    more_follow is (v, zs, h, (more, ys, m, k)) = (item v more, ys, (zs, inl (is, h), m), subst (λ z. Closes limits frames (list z) t ys) (items_before-more ts v more) k)

pub comes-after_member : (limits : Limits) (es : List Entry) (frames : List Frame) (t : Tree) (b : ℕ) (xs : List ℕ) → Comes limits (step_ended (after_member es frames) b) t xs (AfterMember limits es frames t (b ∷ xs))
comes-after_member limits es frames t b xs =
    comes_cond limits (is_blank b) _ _ t xs _
    (λ blank. comes_some limits (after_member es frames) t xs _ (λ h. blanked blank h))
    (λ _. comes_cond limits (b == ascii.comma) _ _ t xs _
    (λ is. comes_some limits (name es frames) t xs _ (λ h. more_follow (eqb-true b ascii.comma is) h))
    (λ _. comes_cond limits (b == ascii.close_brace) _ _ t xs _
    (λ is. comes_some limits (ended frames (table_of es)) t xs _ (λ h. (no_pair, xs, inl (eqb-true b ascii.close_brace is, refl), Closes-ended limits frames (table_of es) t xs h)))
    (λ _. comes_none limits t xs _)))
  where
    blanked : is_blank b ≡ true → AfterMember limits es frames t xs → AfterMember limits es frames t (b ∷ xs)
    blanked blank (no_pair, ys, m, k) = (no_pair, ys, inr (blank, m), k)
    blanked blank (pair n v more, ys, (ns, zs, m, g, r), k) = (pair n v more, ys, (ns, zs, inr (blank, m), g, r), k)

    more_follow : b ≡ ascii.comma → Completes limits (name es frames) t xs → AfterMember limits es frames t (b ∷ xs)
    more_follow is (n, ns, h, (v, zs, g, (more, ys, m, k))) =
        (pair n v more, ys, (ns, zs, inl (is, h), g, m), subst (λ z. Closes limits frames (table z) t ys) (pairs_before-more es (record { name = n; value = v }) more) k)

pub comes-ended : (limits : Limits) (frames : List Frame) (v t : Tree) (b : ℕ) (xs : List ℕ) → Comes limits (step_ended (ended frames v) b) t xs (Closes limits frames v t (b ∷ xs))
comes-ended limits [] v t b xs =
    comes_cond limits (is_blank b) _ _ t xs _
    (λ blank. comes_some limits (done v) t xs _ (λ h. (h.0, inr (blank, h.1))))
    (λ _. comes_none limits t xs _)
comes-ended limits (in_list ts ∷ frames) v t b xs = comes-after_item limits (ts ++ v ∷ []) frames t b xs
comes-ended limits (in_table es n ∷ frames) v t b xs = comes-after_member limits (es ++ record { name = n; value = v } ∷ []) frames t b xs
