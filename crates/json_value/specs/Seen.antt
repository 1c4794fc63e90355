-- The machine's state, as the code keeps it.
use Rattle.std.specs.Prelude.{◌≡◌, ℕ, true, false, List, map, reverse, Option, Some, None, option_map, Result, IfOk, string_bytes, ◌++◌, ◌<◌, ◌≤◌, ◌^◌}
use Rattle.std.specs.Char.{encode_utf8}
use Rattle.json_character.specs.Within.{is_begun}
use Rattle.no_memory.specs.declared.NoMemory.{NoMemory}
use Rattle.json_value.specs.Machine as machine
use Rattle.json_value.specs.Machine.{Numeral, State, Within, plain, Outcome, goes_on, ends, refused}
use Rattle.json_value.specs.Tree.{Tree, null, flag}
use Rattle.json_value.specs.View.{tree_of, entry_of}
use Rattle.json_value.specs.declared.machine.Frame.{Frame}
use Rattle.json_value.specs.declared.machine.Frame.TheVariants.{List as ListFrame, Table as TableFrame}
use Rattle.json_value.specs.declared.machine.Literal.{Literal}
use Rattle.json_value.specs.declared.machine.Literal.TheVariants.{Null, True, False}
use Rattle.json_value.specs.declared.machine.Machine.{Machine}
use Rattle.json_value.specs.declared.machine.Next.{Next}
use Rattle.json_value.specs.declared.machine.Next.TheVariants.{Start, Mark, Value, FirstItem, FirstName, Name, Colon, AfterItem, AfterMember, Word, Number, Text, NameText, Done}

abbrev pub frame_of : Frame → machine.Frame
frame_of (ListFrame ts) = machine.in_list (map tree_of ts)
frame_of (TableFrame es n) = machine.in_table (map entry_of es) n

-- the innermost frame is kept last
abbrev pub frames_of : List Frame → List machine.Frame
frames_of fs = map frame_of (reverse fs)

abbrev pub literal_of : Literal → Tree
literal_of Null = null
literal_of True = flag true
literal_of False = flag false

-- with the number and the text that are being read
abbrev pub state_of : Numeral → List ℕ → List machine.Frame → Next → State
state_of n s fs Start = machine.start
state_of n s fs (Mark ms) = machine.mark ms.now
state_of n s fs Value = machine.value fs
state_of n s fs FirstItem = machine.first_item fs
state_of n s fs FirstName = machine.first_name fs
state_of n s fs (Name es) = machine.name (map entry_of es) fs
state_of n s fs (Colon es name) = machine.colon (map entry_of es) name fs
state_of n s fs (AfterItem ts) = machine.after_item (map tree_of ts) fs
state_of n s fs (AfterMember es) = machine.after_member (map entry_of es) fs
state_of n s fs (Word cs v) = machine.word cs.now (literal_of v) fs
state_of n s fs (Number phase) = machine.numeral phase n fs
state_of n s fs (Text w) = machine.characters machine.as_value s w fs
state_of n s fs (NameText es w) = machine.characters (machine.as_name (map entry_of es)) s w fs
state_of n s fs (Done v) = machine.done (tree_of v)

-- the machine makes this step, where neither the number nor the text is touched
abbrev pub Steps : List Frame → Next → ℕ → Result (Option Next) NoMemory → List Frame → Type 0
Steps old next b result new =
    IfOk result (λ r. (n : Numeral) (s : List ℕ) → option_map (state_of n s (frames_of new)) r ≡ machine.step (state_of n s (frames_of old) next) b)

-- the state with all that the machine keeps beside what comes next
abbrev pub seen_with : Machine → Next → State
seen_with m next = state_of m.numeral (string_bytes m.text) (frames_of m.frames.items) next

-- the text and the place within it after a byte of a character
abbrev pub AfterOutcome : List ℕ → Outcome → List ℕ → Option Within → Type 0
AfterOutcome old (goes_on w) new r = (new ≡ old) × (r ≡ Some w)
AfterOutcome old (ends c) new r = (new ≡ old ++ encode_utf8 c) × (r ≡ Some plain)
AfterOutcome old refused new r = r ≡ None

-- what a step needs of the state before a byte: numbers are short, and a character can go on
abbrev pub IsReady : Machine → Next → Type 0
IsReady m (Number phase) = (m.numeral.length < 2 ^ 32) × (m.numeral.places < 2 ^ 32)
IsReady m (Text w) = is_begun w ≡ true
IsReady m (NameText es w) = is_begun w ≡ true
IsReady m _ = Unit {0}
