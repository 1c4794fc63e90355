-- What a contract says of a bound and its seats.
use Rattle.std.specs.Prelude.{◌≡◌, ℕ, [], Some}
use Rattle.atomic_table.specs.declared.shared.Seat.{Seat}
use Rattle.bound_word.specs.declared.rule.Sight.{Sight}
use Rattle.bound_word.specs.declared.words.Bound.{Bound}
use Rattle.bound_word.specs.Sights.{greatest}

module _ {F : Type 0} where
  -- how many words have ranks
  abbrev pub count_of : Bound F → ℕ
  count_of b = b.count

  -- the content of the bound and of all its seats
  abbrev pub content_of : Bound F → F
  content_of b = b.table.shared.key.content

  -- what the seat has seen of word k: 0 for nothing, else one more than a rank
  abbrev pub seen : Seat (Unit {0}) (Sight F) → ℕ → ℕ
  seen s k = greatest s.me.0.saw k

  -- the seat is of this bound, and has its content
  pub record IsSeatOf (b : Bound F) (s : Seat (Unit {0}) (Sight F)) : Type 0 where
    pub table : s.table_id ≡ b.table.shared.table_id
    pub slotless : s.me.1 ≡ []
    pub content : s.me.0.content ≡ Some (content_of b)
