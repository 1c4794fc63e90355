-- The rule of a bound, which holds between any two steps, and what a step tells its seat.
use Rattle.std.specs.Prelude.{◌≡◌, ℕ, ◌+◌, ◌<◌, ◌≤◌, [], max, length, slice_index, Some}
use mathlib.Core.Option.{some}
use lib.ListN.{get_elem?}
use Rattle.atomic_table.specs.Table.{State, Step, Me}
use Rattle.bound_word.specs.declared.rule.Sight.{Sight}
use Rattle.bound_word.specs.declared.rule.About.{About}
use Rattle.bound_word.specs.Sights.{greatest, sight, with_seen}

module _ {F : Type 0} where
  abbrev pub first_sight : About F → Sight F
  first_sight about = sight (Some about.content) []

  -- the value n of word k is nothing, or one more than a rank that is a fact
  abbrev pub IsFactWord : (F → ℕ → ℕ → Type 0) → F → ℕ → ℕ → Type 0
  IsFactWord fact c k n = (rank : ℕ) → n ≡ rank + 1 → fact c k rank

  -- what holds between any two steps, of the words and of all seats
  pub record Keeps (fact : F → ℕ → ℕ → Type 0) (about : About F) (s : State (Unit {0}) (Sight F)) : Type 0 where
    -- the words with ranks, and the word of the hints behind them
    pub counted : length s.words ≡ about.count + 1
    -- all seats have one content
    pub contents : (i : ℕ) (v : Sight F) (c : F) → get_elem? s.views i ≡ some v → v.content ≡ Some c → c ≡ about.content
    -- each word has nothing, or a rank from 0 to 720 that is a fact
    pub facts : (k : ℕ) → k < about.count → IsFactWord fact about.content k (slice_index s.words k)
    pub small : (k : ℕ) → k < about.count → slice_index s.words k ≤ 721
    -- what a seat has seen of a word is at most the word: it only rises
    pub risen : (i : ℕ) (v : Sight F) (k : ℕ) → get_elem? s.views i ≡ some v → k < about.count → greatest v.saw k ≤ slice_index s.words k

  -- the word n was found: a fact of the content, at least what had been seen, and now seen
  abbrev pub Reads : (F → ℕ → ℕ → Type 0) → Step (Unit {0}) → Me (Unit {0}) (Sight F) → ℕ → Me (Unit {0}) (Sight F) → Type 0
  Reads fact t me n after =
      (after ≡ (with_seen me.0 t.word n, me.1))
      × ((c : F) → me.0.content ≡ Some c → IsFactWord fact c t.word n)
      × (n ≤ 721)
      × (greatest me.0.saw t.word ≤ n)

  -- the word n was found, and the greater of it and the operand is now seen
  abbrev pub Raises : Step (Unit {0}) → Me (Unit {0}) (Sight F) → ℕ → Me (Unit {0}) (Sight F) → Type 0
  Raises t me n after = after ≡ (with_seen me.0 t.word (max n t.first), me.1)

  -- nothing was seen of a word with ranks
  abbrev pub Passes : Step (Unit {0}) → Me (Unit {0}) (Sight F) → ℕ → Me (Unit {0}) (Sight F) → Type 0
  Passes t me n after = after ≡ me
