-- Limits that allow all that the machine allows, such as one of its two: how a run goes on by them.
use Rattle.std.proofs.Common.{◌≡◌, ℕ, ◌+◌, ◌-◌, ◌<◌, ◌≤◌, Bool, true, false, List, [], ◌∷◌, ◌++◌, length, Some, refl, sym, subst, ◌∙◌, max, nat_lt, nat_le, arith}
use Rattle.std.proofs.lemmas.Bool.{leb-true, leb-false, le-leb}
use Rattle.exact_json.specs.Advance.{Passes}
use Rattle.exact_json.specs.Grammar.{IsJsonBy}
use Rattle.exact_json.specs.Limits.{Limits, depth_limit, number_limit_before}
use Rattle.json_value.specs.Machine.{State, start, mark, value, first_item, first_name, name, colon, after_item, after_member, word, numeral, characters, done, step}
use Rattle.exact_json.specs.Runs.{run_within, is_within}
use Rattle.json_value.specs.Tree.{Tree}
use Rattle.exact_json.specs.declared.fault.JsonFault.TheVariants.{TooDeep, LongNumber}
use Rattle.exact_json.proofs.Ends.{FitsEnd, finish}
use Rattle.exact_json.proofs.Kept.{first_step, within-run, run-sound}
use Rattle.exact_json.proofs.NumberSteps.{MayEnd}
use Rattle.exact_json.proofs.ReaderRuns.{plain_more}
use Rattle.exact_json.proofs.Runs.{AllFit, run_comes}
use Rattle.exact_json.proofs.Sound.{IsCounted, step-sound}
use Rattle.exact_json.proofs.Steps.{Fits}

pub record Allows (limits : Limits) : Type 0 where
  pub opens : (depth : ℕ) → nat_lt depth 64 ≡ true → limits.may_open depth ≡ true
  pub reaches : (size after : ℕ) → nat_le size 64 ≡ true → limits.may_reach (size + after) after ≡ true

pub depth_allows : Allows depth_limit
depth_allows = record { opens = λ depth h. h; reaches = λ size after h. refl }

pub number_allows : (last : ℕ) → Allows (number_limit_before last)
number_allows last = record {
  opens = λ depth h. refl;
  reaches = λ size after h. let small : size ≤ 64 = leb-true size 64 h in let reach : size + after - max after last ≤ 64 = omega arith in le-leb _ 64 reach;
}

fits : (limits : Limits) (t : Tree) (m : State) → Allows limits → is_within m ≡ true → Fits limits t m
unfolding Fits MayEnd
fits limits t start a e = tt
fits limits t (mark ms) a e = tt
fits limits t (value frames) a e = tt
fits limits t (first_item frames) a e = a.opens (length frames) e
fits limits t (first_name frames) a e = a.opens (length frames) e
fits limits t (name es frames) a e = tt
fits limits t (colon es n frames) a e = tt
fits limits t (after_item ts frames) a e = tt
fits limits t (after_member es frames) a e = tt
fits limits t (word cs v frames) a e = tt
fits limits t (numeral phase n frames) a e = λ k. a.reaches n.length k e
fits limits t (characters role s w frames) a e = tt
fits limits t (done v) a e = tt

-- the state after the last byte may be any
all_fit : (limits : Limits) (t : Tree) (m n : State) (p : List ℕ) (b : ℕ) → Allows limits → is_within m ≡ true → run_within m p ≡ Some n → AllFit limits t m (p ++ b ∷ [])
all_fit limits t m n [] b a within e = (fits limits t m a within, λ k is. tt)
all_fit limits t m n (x ∷ p) b a within e =
    let s = first_step m n x p e in
    (fits limits t m a within, λ k is. moved s.0 k (sym s.1 ∙ is) (all_fit limits t s.0 n p b a s.2 s.3))
  where
    moved : (j k : State) → Some j ≡ Some k → AllFit limits t j (p ++ b ∷ []) → AllFit limits t k (p ++ b ∷ [])
    moved j k e h = let same : j ≡ k = cc in subst (λ s. AllFit limits t s (p ++ b ∷ [])) same h

-- one byte after a run within the limits, some bytes complete a text by what the state keeps
pub completes : (limits : ℕ → Limits) (m n : State) (p : List ℕ) (b : ℕ) → ((last : ℕ) → Allows (limits last)) → run_within start p ≡ Some m → step m b ≡ Some n → ((last : ℕ) → FitsEnd (limits last) n last) → (t : Tree) × (more : List ℕ) × IsJsonBy (limits (length more)) t ((p ++ b ∷ []) ++ more)
completes limits m n p b a e s ends =
    let f = finish n (step-sound m b n (run-sound start m p tt e) s) in
    let l = limits (length f.bytes) in
    let fit = all_fit l f.tree start m p b (a (length f.bytes)) refl e in
    (f.tree, f.bytes, run_comes l f.tree start n (p ++ b ∷ []) f.bytes tt fit (plain_more start m p b (within-run start m p e) ∙ s) (f.holds l (ends (length f.bytes))))

is_false : (b : Bool) → (b ≡ true → ⊥) → b ≡ false
is_false true never = absurd (never refl)
is_false false never = refl

-- a state that keeps no limit on depth, or on numbers
pub too_deep : (n : State) (place : ℕ) → (((last : ℕ) → FitsEnd depth_limit n last) → ⊥) → Passes n place (TooDeep place)
too_deep start place never = never (λ last. tt)
too_deep (mark ms) place never = never (λ last. tt)
too_deep (value frames) place never = never (λ last. tt)
too_deep (first_item frames) place never = (is_false _ (λ e. never (λ last. e)), refl)
too_deep (first_name frames) place never = (is_false _ (λ e. never (λ last. e)), refl)
too_deep (name es frames) place never = never (λ last. tt)
too_deep (colon es u frames) place never = never (λ last. tt)
too_deep (after_item ts frames) place never = never (λ last. tt)
too_deep (after_member es frames) place never = never (λ last. tt)
too_deep (word cs v frames) place never = never (λ last. tt)
too_deep (numeral phase n frames) place never = absurd (never (λ last e h. refl))
too_deep (characters role s w frames) place never = never (λ last. tt)
too_deep (done v) place never = never (λ last. tt)

pub too_long : (n : State) (place : ℕ) → IsCounted 65 n → (((last : ℕ) → FitsEnd (number_limit_before last) n last) → ⊥) → Passes n (place + 64) (LongNumber place)
too_long start place c never = never (λ last. tt)
too_long (mark ms) place c never = never (λ last. tt)
too_long (value frames) place c never = never (λ last. tt)
too_long (first_item frames) place c never = never (λ last. refl)
too_long (first_name frames) place c never = never (λ last. refl)
too_long (name es frames) place c never = never (λ last. tt)
too_long (colon es u frames) place c never = never (λ last. tt)
too_long (after_item ts frames) place c never = never (λ last. tt)
too_long (after_member es frames) place c never = never (λ last. tt)
too_long (word cs v frames) place c never = never (λ last. tt)
too_long (numeral phase n frames) place c never =
    let long = is_false (nat_le n.length 64) (λ e. never (λ last. ends last e)) in
    let least : 64 < n.length = leb-false n.length 64 long in
    (long, omega (arith, c))
  where
    ends : (last : ℕ) → nat_le n.length 64 ≡ true → FitsEnd (number_limit_before last) (numeral phase n frames) last
    ends last e end h = let small : n.length ≤ 64 = leb-true n.length 64 e in let reach : n.length + last - max end last ≤ 64 = omega arith in le-leb _ 64 reach
too_long (characters role s w frames) place c never = never (λ last. tt)
too_long (done v) place c never = never (λ last. tt)
