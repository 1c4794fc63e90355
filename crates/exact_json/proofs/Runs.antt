-- Whole runs of the machine: what it accepts, and what the bytes so far begin.
use Rattle.std.proofs.Common.{◌≡◌, ℕ, List, [], ◌∷◌, ◌++◌, Option, Some, None, option_and_then, refl, sym, ap, subst, ◌∙◌}
use Rattle.exact_json.specs.Limits.{Limits}
use Rattle.json_value.specs.Machine.{State, step}
use Rattle.exact_json.specs.Runs.{run}
use Rattle.json_value.specs.Tree.{Tree}
use Rattle.exact_json.proofs.Left.{Completes}
use Rattle.exact_json.proofs.Steps.{Fits, goes-step, comes-step}
use Rattle.exact_json.proofs.Sound.{IsSound, formed, step-sound}

-- The machine goes on wherever the grammar does.
pub run_goes : (limits : Limits) (t : Tree) (m : State) (p more : List ℕ) → IsSound m → Completes limits m t (p ++ more) → (n : State) × (run m p ≡ Some n) × Completes limits n t more
run_goes limits t m [] more sound h = (m, refl, h)
run_goes limits t m (b ∷ p) more sound h =
    let g = goes-step limits t m b (p ++ more) (formed limits t m sound) h in
    let r = run_goes limits t g.0 p more (step-sound m b g.0 sound g.1) g.2 in
    (r.0, ap (option_and_then (λ n. run n p)) g.1 ∙ r.1, r.2)

-- A run all of whose states keep the limits: each state but the last.
abbrev pub AllFit : Limits → Tree → State → List ℕ → Type 0
AllFit limits t m [] = Unit {0}
AllFit limits t m (b ∷ p) = Fits limits t m × ((n : State) → step m b ≡ Some n → AllFit limits t n p)

pub run_comes : (limits : Limits) (t : Tree) (m n : State) (p more : List ℕ) → IsSound m → AllFit limits t m p → run m p ≡ Some n → Completes limits n t more → Completes limits m t (p ++ more)
run_comes limits t m n [] more sound fit e h = let same : m ≡ n = cc in subst (λ s. Completes limits s t more) (sym same) h
run_comes limits t m n (b ∷ p) more sound fit e h = by (step m b) refl e (λ k is e. run_comes limits t k n p more (step-sound m b k sound is) (fit.1 k is) e h)
  where
    by : (o : Option State) → step m b ≡ o → option_and_then (λ k. run k p) o ≡ Some n → ((k : State) → step m b ≡ Some k → run k p ≡ Some n → Completes limits k t (p ++ more)) → Completes limits m t (b ∷ (p ++ more))
    by None is e rest = absurd (cc)
    by (Some k) is e rest = comes-step limits t m b (p ++ more) (formed limits t m sound) fit.0 k is (rest k is e)
