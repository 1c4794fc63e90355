-- The properties of a calendar, a line each, after RFC 5545, section 3.1.
use Rattle.std.specs.Prelude.{ℕ, suc, ◌+◌, ◌==◌, ◌&&◌, ◌||◌, not, if◌then◌else◌, Bool, true, false, List, [], ◌∷◌, codes, map, take, drop, Option, Some, None, option_map, option_and_then}
use Rattle.std.specs.Char.{is_ascii_alphanumeric, to_ascii_lowercase}
use Rattle.std.specs.List.{list_all}
use Rattle.std.specs.Str.{bytes_eq}
use Rattle.ical_text.specs.declared.property.Name.{Name}
use Rattle.ical_text.specs.declared.property.Name.TheVariants.{Begin, End, Uid, Start, Summary, Other}

-- a property: what its name is, and its value
pub record Property : Type 0 where
  pub name : Name
  pub value : List ℕ

-- the same bytes, but for the case of the letters
abbrev pub is_word : List ℕ → List ℕ → Bool
is_word word bytes = bytes_eq (map to_ascii_lowercase word) (map to_ascii_lowercase bytes)

abbrev pub name_of : List ℕ → Name
name_of bytes =
    if is_word (codes "BEGIN") bytes then Begin
    else (if is_word (codes "END") bytes then End
    else (if is_word (codes "UID") bytes then Uid
    else (if is_word (codes "DTSTART") bytes then Start
    else (if is_word (codes "SUMMARY") bytes then Summary else Other))))

-- the place of the first colon outside double quotes
unfoldable pub colon_in : Bool → List ℕ → Option ℕ
colon_in quoted [] = None
colon_in quoted (b ∷ bytes) =
    if (b == 58) && not quoted then Some 0 else option_map suc (colon_in (if b == 34 then not quoted else quoted) bytes)

abbrev pub is_name_byte : ℕ → Bool
is_name_byte b = is_ascii_alphanumeric b || (b == 45)

-- nothing, or parameters behind a semicolon
abbrev pub is_parameters : List ℕ → Bool
is_parameters [] = true
is_parameters (b ∷ bytes) = b == 59

-- how long the name in front is
abbrev pub name_length : List ℕ → ℕ
name_length [] = 0
name_length (b ∷ bytes) = if is_name_byte b then suc (name_length bytes) else 0

-- a name and its parameters: the name, if it has a letter and is followed by nothing or by a semicolon
abbrev pub name_in : List ℕ → Option Name
name_in head =
    if not (name_length head == 0) && is_parameters (drop (name_length head) head)
    then Some (name_of (take (name_length head) head)) else None

abbrev pub property_at : List ℕ → ℕ → Option Property
property_at line colon = option_map (λ name. record { name = name; value = drop (colon + 1) line }) (name_in (take colon line))

-- neither CR nor LF
abbrev pub is_inner : ℕ → Bool
is_inner b = not (b == 13) && not (b == 10)

-- The property of a line: a name of letters, digits and `-`; nothing, or `;` and bytes with no `:` outside double quotes;
-- then `:` and the value. A line with a CR or an LF in it has none.
unfoldable pub property_of : List ℕ → Option Property
property_of line = if list_all is_inner line then option_and_then (property_at line) (colon_in false line) else None
