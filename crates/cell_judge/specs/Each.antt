-- Lists whose elements are as their numbers ask.
use Rattle.std.specs.Prelude.{◌≡◌, ℕ, List, Some}
use Rattle.std.specs.List.{slice_get}

pub record Each {A : Type 0} (P : ℕ → A → Type 0) (xs : List A) : Type 0 where
  pub at : (n : ℕ) (x : A) → slice_get xs n ≡ Some x → P n x
