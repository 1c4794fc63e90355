-- What holds of each state that the machine comes to.
use Rattle.std.proofs.Common.{◌≡◌, ℕ, ◌+◌, ◌≤◌, Bool, true, false, cond, List, [], ◌∷◌, Option, Some, None, refl, subst, arith, ◌==◌}
use Rattle.json_character.specs.Ascii as ascii
use Rattle.json_character.specs.Ascii.{is_blank, is_digit, is_exponent_letter}
use Rattle.exact_json.specs.Limits.{Limits}
pub use Rattle.exact_json.specs.Advance.{IsSound}
use Rattle.json_value.specs.Machine.{Frame, in_list, in_table, Role, as_value, as_name, State, start, mark, value, first_item, first_name, name, colon, after_item, after_member, word, numeral, characters, done, ended, ended_text, step, step_ended, step_value, step_begin, step_name, step_numeral, step_letter, step_point, step_exponent, step_characters, step_outcome, decimal_so_far}
use Rattle.exact_json.proofs.States.{Numeral, Phase, after_minus, after_zero, in_whole, after_point, in_fraction, after_letter, after_sign, in_exponent, Within, plain, escape, unit, high, high_escape, low, tail, Outcome, goes_on, ends, refused}
use Rattle.json_value.specs.Tree.{Tree, number, text, Entry}
use Rattle.json_character.specs.Within.{after_byte, is_begun}
use Rattle.json_character.proofs.CharacterSteps.{LeadsBegun, leads_begun}
use Rattle.exact_json.proofs.Steps.{IsFormed}

pub formed : (limits : Limits) (t : Tree) (m : State) → IsSound m → IsFormed limits t m
unfolding IsFormed
formed limits t (characters role s w frames) h = h
formed limits t start h = tt
formed limits t (mark ms) h = tt
formed limits t (value frames) h = tt
formed limits t (first_item frames) h = tt
formed limits t (first_name frames) h = tt
formed limits t (name es frames) h = tt
formed limits t (colon es n frames) h = tt
formed limits t (after_item ts frames) h = tt
formed limits t (after_member es frames) h = tt
formed limits t (word cs v frames) h = tt
formed limits t (numeral phase n frames) h = tt
formed limits t (done v) h = tt

-- a number has one byte more, or is one byte long
abbrev pub Grown : State → Numeral → Type 0
Grown (numeral phase o frames) n = (n.length ≡ o.length + 1) × (n.places ≤ o.places + 1)
Grown _ n = (n.length ≡ 1) × (n.places ≡ 0)

-- what a step from m comes to
abbrev pub After : State → State → Type 0
After m (characters role s w frames) = is_begun w ≡ true
After m (numeral phase n frames) = Grown m n
After m _ = Unit {0}

abbrev OnSome : State → Option State → Type 0
OnSome m None = Unit {0}
OnSome m (Some n) = After m n

either : (m : State) (c : Bool) (x y : Option State) → OnSome m x → OnSome m y → OnSome m (cond c x y)
either m true x y h k = h
either m false x y h k = k

after_ended : (m : State) (frames : List Frame) (v : Tree) → After m (ended frames v)
after_ended m [] v = tt
after_ended m (in_list ts ∷ frames) v = tt
after_ended m (in_table es n ∷ frames) v = tt

after_step_ended : (m : State) (frames : List Frame) (v : Tree) (b : ℕ) → OnSome m (step_ended (ended frames v) b)
after_step_ended m [] v b = either m (is_blank b) _ None tt tt
after_step_ended m (in_list ts ∷ frames) v b = either m (is_blank b) _ _ tt (either m (b == ascii.comma) _ _ tt (either m (b == ascii.close_bracket) _ None (after_ended m frames _) tt))
after_step_ended m (in_table es n ∷ frames) v b = either m (is_blank b) _ _ tt (either m (b == ascii.comma) _ _ tt (either m (b == ascii.close_brace) _ None (after_ended m frames _) tt))

module _ (phase : Phase) (n : Numeral) (frames : List Frame) (b : ℕ) where
  more : n.places ≤ n.places + 1
  more = omega arith

  after_letter_step : OnSome (numeral phase n frames) (step_letter n frames b)
  after_letter_step = either (numeral phase n frames) (is_exponent_letter b) _ _ (refl, more) (after_step_ended (numeral phase n frames) frames (number (decimal_so_far n)) b)

  after_point_step : OnSome (numeral phase n frames) (step_point n frames b)
  after_point_step = either (numeral phase n frames) (b == ascii.point) _ _ (refl, more) after_letter_step

  after_exponent : (otherwise : Option State) → OnSome (numeral phase n frames) otherwise → OnSome (numeral phase n frames) (step_exponent n frames b otherwise)
  after_exponent otherwise h = either (numeral phase n frames) (is_digit b) _ otherwise (refl, more) h

after_numeral : (phase : Phase) (n : Numeral) (frames : List Frame) (b : ℕ) → OnSome (numeral phase n frames) (step_numeral phase n frames b)
after_numeral after_minus n frames b = either (numeral after_minus n frames) (is_digit b) _ None (refl, more after_minus n frames b) tt
after_numeral after_zero n frames b = after_point_step after_zero n frames b
after_numeral in_whole n frames b = either (numeral in_whole n frames) (is_digit b) _ _ (refl, more in_whole n frames b) (after_point_step in_whole n frames b)
after_numeral after_point n frames b = either (numeral after_point n frames) (is_digit b) _ None (refl, omega arith) tt
after_numeral in_fraction n frames b = either (numeral in_fraction n frames) (is_digit b) _ _ (refl, omega arith) (after_letter_step in_fraction n frames b)
after_numeral after_letter n frames b =
    either (numeral after_letter n frames) (b == ascii.plus) _ _ (refl, more after_letter n frames b) (either (numeral after_letter n frames) (b == ascii.minus) _ _ (refl, more after_letter n frames b) (after_exponent after_letter n frames b None tt))
after_numeral after_sign n frames b = after_exponent after_sign n frames b None tt
after_numeral in_exponent n frames b = after_exponent in_exponent n frames b _ (after_step_ended (numeral in_exponent n frames) frames (number (decimal_so_far n)) b)

after_outcome : (m : State) (role : Role) (s : List ℕ) (frames : List Frame) (o : Outcome) → LeadsBegun o → OnSome m (step_outcome role s frames o)
after_outcome m role s frames (goes_on w) h = h.0
after_outcome m role s frames (ends c) h = refl
after_outcome m role s frames refused h = tt

after_ended_text : (m : State) (role : Role) (s : List ℕ) (frames : List Frame) → After m (ended_text role s frames)
after_ended_text m as_value s frames = after_ended m frames (text s)
after_ended_text m (as_name es) s frames = tt

after_characters : (m : State) (role : Role) (s : List ℕ) (w : Within) (frames : List Frame) (b : ℕ) → is_begun w ≡ true → OnSome m (step_characters role s w frames b)
after_characters m role s plain frames b h = either m (b == ascii.quote) _ _ (after_ended_text m role s frames) (after_outcome m role s frames (after_byte plain b) (leads_begun plain b h))
after_characters m role s escape frames b h = after_outcome m role s frames (after_byte escape b) (leads_begun escape b h)
after_characters m role s (unit n v) frames b h = after_outcome m role s frames (after_byte (unit n v) b) (leads_begun (unit n v) b h)
after_characters m role s (high u) frames b h = after_outcome m role s frames (after_byte (high u) b) (leads_begun (high u) b h)
after_characters m role s (high_escape u) frames b h = after_outcome m role s frames (after_byte (high_escape u) b) (leads_begun (high_escape u) b h)
after_characters m role s (low n v u) frames b h = after_outcome m role s frames (after_byte (low n v u) b) (leads_begun (low n v u) b h)
after_characters m role s (tail least n v) frames b h = after_outcome m role s frames (after_byte (tail least n v) b) (leads_begun (tail least n v) b h)

-- from a state that is no number; `start` stands for any such
after_begin : (frames : List Frame) (b : ℕ) → OnSome start (step_begin frames b)
after_begin frames b =
    either start (is_digit b) _ _ (refl, refl) (either start (b == ascii.minus) _ _ (refl, refl) (either start (b == ascii.quote) _ _ refl
    (either start (b == ascii.open_bracket) _ _ tt (either start (b == ascii.open_brace) _ _ tt (either start (b == 0x6E) _ _ tt (either start (b == 0x74) _ _ tt (either start (b == 0x66) _ None tt tt)))))))

after_value : (frames : List Frame) (b : ℕ) → OnSome start (step_value frames b)
after_value frames b = either start (is_blank b) _ _ tt (after_begin frames b)

after_name : (es : List Entry) (frames : List Frame) (b : ℕ) → OnSome start (step_name es frames b)
after_name es frames b = either start (b == ascii.quote) _ None refl tt

-- a step from a state that is no number, as from the start
as_start : (m : State) → ((n : Numeral) → Grown start n → Grown m n) → (o : Option State) → OnSome start o → OnSome m o
as_start m f None h = tt
as_start m f (Some start) h = tt
as_start m f (Some (mark ms)) h = tt
as_start m f (Some (value frames)) h = tt
as_start m f (Some (first_item frames)) h = tt
as_start m f (Some (first_name frames)) h = tt
as_start m f (Some (name es frames)) h = tt
as_start m f (Some (colon es n frames)) h = tt
as_start m f (Some (after_item ts frames)) h = tt
as_start m f (Some (after_member es frames)) h = tt
as_start m f (Some (word cs v frames)) h = tt
as_start m f (Some (numeral phase n frames)) h = f n h
as_start m f (Some (characters role s w frames)) h = h
as_start m f (Some (done v)) h = tt

on_step : (m : State) (b : ℕ) → IsSound m → OnSome m (step m b)
on_step start b h = either start (b == 0xEF) _ _ tt (after_value [] b)
on_step (mark []) b h = as_start (mark []) (λ n g. g) _ (after_value [] b)
on_step (mark (m ∷ ms)) b h = either (mark (m ∷ ms)) (b == m) _ None tt tt
on_step (value frames) b h = as_start (value frames) (λ n g. g) _ (after_value frames b)
on_step (first_item frames) b h =
    either (first_item frames) (is_blank b) _ _ tt (either (first_item frames) (b == ascii.close_bracket) _ _ (after_ended (first_item frames) frames _) (as_start (first_item frames) (λ n g. g) _ (after_begin (in_list [] ∷ frames) b)))
on_step (first_name frames) b h =
    either (first_name frames) (is_blank b) _ _ tt (either (first_name frames) (b == ascii.close_brace) _ _ (after_ended (first_name frames) frames _) (as_start (first_name frames) (λ n g. g) _ (after_name [] frames b)))
on_step (name es frames) b h = either (name es frames) (is_blank b) _ _ tt (as_start (name es frames) (λ n g. g) _ (after_name es frames b))
on_step (colon es n frames) b h = either (colon es n frames) (is_blank b) _ _ tt (either (colon es n frames) (b == ascii.colon) _ None tt tt)
on_step (after_item ts frames) b h = either (after_item ts frames) (is_blank b) _ _ tt (either (after_item ts frames) (b == ascii.comma) _ _ tt (either (after_item ts frames) (b == ascii.close_bracket) _ None (after_ended (after_item ts frames) frames _) tt))
on_step (after_member es frames) b h = either (after_member es frames) (is_blank b) _ _ tt (either (after_member es frames) (b == ascii.comma) _ _ tt (either (after_member es frames) (b == ascii.close_brace) _ None (after_ended (after_member es frames) frames _) tt))
on_step (word [] v frames) b h = after_step_ended (word [] v frames) frames v b
on_step (word (c ∷ cs) v frames) b h = either (word (c ∷ cs) v frames) (b == c) _ None tt tt
on_step (numeral phase n frames) b h = after_numeral phase n frames b
on_step (characters role s w frames) b h = after_characters (characters role s w frames) role s w frames b h
on_step (done v) b h = either (done v) (is_blank b) _ None tt tt

step-after : (m : State) (b : ℕ) (n : State) → IsSound m → step m b ≡ Some n → After m n
step-after m b n h e = subst (OnSome m) e (on_step m b h)

-- at most k bytes of a number
abbrev pub IsCounted : ℕ → State → Type 0
IsCounted k (numeral phase n frames) = n.length ≤ k
IsCounted k _ = Unit {0}

grown_sound : (m : State) (n : Numeral) → IsSound m → Grown m n → n.places ≤ n.length
grown_sound start n h g = omega (arith, g.0, g.1)
grown_sound (mark ms) n h g = omega (arith, g.0, g.1)
grown_sound (value frames) n h g = omega (arith, g.0, g.1)
grown_sound (first_item frames) n h g = omega (arith, g.0, g.1)
grown_sound (first_name frames) n h g = omega (arith, g.0, g.1)
grown_sound (name es frames) n h g = omega (arith, g.0, g.1)
grown_sound (colon es u frames) n h g = omega (arith, g.0, g.1)
grown_sound (after_item ts frames) n h g = omega (arith, g.0, g.1)
grown_sound (after_member es frames) n h g = omega (arith, g.0, g.1)
grown_sound (word cs v frames) n h g = omega (arith, g.0, g.1)
grown_sound (numeral phase o frames) n h g = omega (arith, g.0, g.1)
grown_sound (characters role s w frames) n h g = omega (arith, g.0, g.1)
grown_sound (done v) n h g = omega (arith, g.0, g.1)

grown_counted : (k : ℕ) (m : State) (n : Numeral) → IsCounted k m → Grown m n → n.length ≤ k + 1
grown_counted k start n h g = omega (arith, g.0)
grown_counted k (mark ms) n h g = omega (arith, g.0)
grown_counted k (value frames) n h g = omega (arith, g.0)
grown_counted k (first_item frames) n h g = omega (arith, g.0)
grown_counted k (first_name frames) n h g = omega (arith, g.0)
grown_counted k (name es frames) n h g = omega (arith, g.0)
grown_counted k (colon es u frames) n h g = omega (arith, g.0)
grown_counted k (after_item ts frames) n h g = omega (arith, g.0)
grown_counted k (after_member es frames) n h g = omega (arith, g.0)
grown_counted k (word cs v frames) n h g = omega (arith, g.0)
grown_counted k (numeral phase o frames) n h g = omega (arith, g.0)
grown_counted k (characters role s w frames) n h g = omega (arith, g.0)
grown_counted k (done v) n h g = omega (arith, g.0)

pub step-sound : (m : State) (b : ℕ) (n : State) → IsSound m → step m b ≡ Some n → IsSound n
step-sound m b n h e = by n (step-after m b n h e)
  where
    by : (n : State) → After m n → IsSound n
    by start a = tt
    by (mark ms) a = tt
    by (value frames) a = tt
    by (first_item frames) a = tt
    by (first_name frames) a = tt
    by (name es frames) a = tt
    by (colon es n frames) a = tt
    by (after_item ts frames) a = tt
    by (after_member es frames) a = tt
    by (word cs v frames) a = tt
    by (numeral phase o frames) a = grown_sound m o h a
    by (characters role s w frames) a = a
    by (done v) a = tt

pub step-counted : (k : ℕ) (m : State) (b : ℕ) (n : State) → IsSound m → IsCounted k m → step m b ≡ Some n → IsCounted (k + 1) n
step-counted k m b n h c e = by n (step-after m b n h e)
  where
    by : (n : State) → After m n → IsCounted (k + 1) n
    by start a = tt
    by (mark ms) a = tt
    by (value frames) a = tt
    by (first_item frames) a = tt
    by (first_name frames) a = tt
    by (name es frames) a = tt
    by (colon es n frames) a = tt
    by (after_item ts frames) a = tt
    by (after_member es frames) a = tt
    by (word cs v frames) a = tt
    by (numeral phase o frames) a = grown_counted k m o c a
    by (characters role s w frames) a = tt
    by (done v) a = tt
