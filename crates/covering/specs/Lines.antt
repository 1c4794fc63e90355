-- The lines of a covering: compact JSON objects, their members in the order of their names, and a line feed.
use Rattle.std.specs.Prelude.{◌≡◌, IsUtf8, ℕ, List, [], ◌∷◌, ◌++◌, codes, ℤ, Option, Some, None}
use Rattle.std.specs.Fmt.{signed_decimal}
use Rattle.plane_edges.specs.declared.points.Point.{Point}
use Rattle.cell_split.specs.declared.cell.Cell.{Cell}
use Rattle.serde_json.specs.Data.{Data, number, unsigned, string, array, object, no_items, item, no_members, member}
use Rattle.serde_json.specs.Find.{of_integer}
use Rattle.serde_json.specs.Read.{read}
use Rattle.serde_json.specs.Written.{compact_text}
use Rattle.covering.specs.declared.settled.Settled.{Settled}
use Rattle.covering.specs.Runs.{runs_text}

-- the numerators and the denominator of the place that refutes, as texts
abbrev pub point_data : Option (Cell × Point) → Data
point_data None = array no_items
point_data (Some found) =
    array (item (string (signed_decimal found.1.a)) (item (string (signed_decimal found.1.b)) (item (string (signed_decimal found.1.d)) no_items)))

-- the refuted cell
abbrev pub cell_data : Option (Cell × Point) → Data
cell_data None = array no_items
cell_data (Some found) =
    array (item (number (of_integer found.0.x)) (item (number (of_integer found.0.y)) (item (number (unsigned found.0.size)) (item (number (unsigned found.0.first)) (item (number (unsigned found.0.last)) no_items)))))

-- the object of a line, whose last member has the letters
abbrev pub members_data : List ℕ → List ℕ → Data → ℤ → Data → List ℕ → List ℕ → Data
members_data column day point r refuted name letters =
    object (member (codes "column") (string column) (member (codes "day") (string day) (member (codes "point") point
    (member (codes "r") (number (of_integer r)) (member (codes "refuted") refuted (member name (string letters) no_members))))))

abbrev pub line_data : List ℕ → List ℕ → Settled → List ℕ → List ℕ → Data
line_data column day s name letters =
    members_data column day (point_data s.refuted) s.r (cell_data s.refuted) name letters

-- with the letters one by one
abbrev pub tree_data : List ℕ → List ℕ → Settled → Data
tree_data column day s = line_data column day s (codes "tree") s.letters

-- with the letters in runs
abbrev pub runs_data : List ℕ → List ℕ → Settled → Data
runs_data column day s = line_data column day s (codes "runs") (runs_text s.letters)

-- the line of the first form
abbrev pub tree_line : List ℕ → List ℕ → Settled → List ℕ
tree_line column day s = compact_text (tree_data column day s) ++ 10 ∷ []

-- the line of the second form
abbrev pub runs_line : List ℕ → List ℕ → Settled → List ℕ
runs_line column day s = compact_text (runs_data column day s) ++ 10 ∷ []

-- the bytes are a text that is read as this value
pub record IsReadAs (d : Data) (bytes : List ℕ) : Type 0 where
  pub utf8 : IsUtf8 bytes
  pub value : read bytes ≡ Some d
