-- Bytes without a line feed.
use Rattle.std.specs.Prelude.{ℕ, ◌==◌, not, Bool, List}
use Rattle.std.specs.List.{list_all}

abbrev pub is_no_feed : ℕ → Bool
is_no_feed b = not (b == 10)

-- no byte is a line feed
abbrev pub has_no_feed : List ℕ → Bool
has_no_feed bytes = list_all is_no_feed bytes
