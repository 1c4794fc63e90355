-- The states of the generator, one after another.
use Rattle.std.proofs.Common.{◌≡◌, ap, add-one, refl, ℕ, ◌+◌, ◌%◌, ◌∙◌}
use Rattle.demo_summary.specs.Numbers.{next_state, state_at}

pub state_first : (number : ℕ) → number % 2147483648 ≡ state_at number 0
unfolding state_at
state_first number = refl

pub state_more : (number i x y : ℕ) → x ≡ state_at number i → y ≡ next_state x → y ≡ state_at number (i + 1)
unfolding state_at
state_more number i x y is next = next ∙ ap next_state is ∙ rw (add-one i) refl
