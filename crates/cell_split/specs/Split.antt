-- The split rule: what a cell is divided into.
use Rattle.std.specs.Prelude.{ℕ, ◌+◌, ◌-◌, ◌*◌, ◌/◌, ◌^◌, nat_lt, ◌&&◌, if◌then◌else◌, Bool, List, [], ◌∷◌, take, ℤ, pos, ◌+ℤ◌}
use Rattle.cell_split.specs.declared.cell.Cell.{Cell}
use Rattle.cell_split.specs.declared.cell.Children.{Children}

-- how many ranks the cell has
abbrev pub rank_count : Cell → ℕ
rank_count c = c.last - c.first + 1

-- Whether the minutes are divided: there are several, and more of them for the box's side than the root has (2^25 times the
-- ranks are above the side in place units).
abbrev pub is_long : Cell → Bool
is_long c = nat_lt 1 (rank_count c) && nat_lt (2 ^ c.size) (rank_count c * 2 ^ 25)

-- the first rank of the later half
abbrev pub middle : Cell → ℕ
middle c = c.first + rank_count c / 2

-- the cell at these ranks
abbrev pub at_ranks : Cell → ℕ → ℕ → Cell
at_ranks c first last = record { x = c.x; y = c.y; size = c.size; first = first; last = last }

-- the quarter of the box at this corner
abbrev pub quarter : Cell → ℤ → ℤ → Cell
quarter c x y = record { x = x; y = y; size = c.size - 1; first = c.first; last = c.last }

-- half the side
abbrev pub half : Cell → ℤ
half c = pos (2 ^ (c.size - 1))

abbrev pub two : Cell → Cell → Children
two a b = record { count = 2; cells = a ∷ b ∷ b ∷ b ∷ [] }

abbrev pub four : Cell → Cell → Cell → Cell → Children
four a b c d = record { count = 4; cells = a ∷ b ∷ c ∷ d ∷ [] }

-- the later half comes first
abbrev pub halves : Cell → Children
halves c = two (at_ranks c (middle c) c.last) (at_ranks c c.first (middle c - 1))

-- south-west, south-east, north-west, north-east
abbrev pub quarters : Cell → Children
quarters c =
    four (quarter c c.x c.y) (quarter c (c.x +ℤ half c) c.y) (quarter c c.x (c.y +ℤ half c)) (quarter c (c.x +ℤ half c) (c.y +ℤ half c))

abbrev pub none : Cell → Children
none c = record { count = 0; cells = c ∷ c ∷ c ∷ c ∷ [] }

unfoldable pub split : Cell → Children
split c =
    if is_long c then halves c
    else if nat_lt 4 c.size then quarters c
    else none c

-- the children in tree order
abbrev pub children_of : Cell → List Cell
children_of c = take (split c).count (split c).cells
