-- What bytes are as an input, and what was read of them.
use Rattle.std.proofs.Common.{◌≡◌, ◌∙◌, sym, ℕ, ◌+◌, ◌<◌, ◌≤◌, ◌⊎◌, inl, inr, List, [], length, Bool, true, false, Option, Some, None, Ok, Err, Result, refl, ap, arith, subst}
use Rattle.std.specs.Prelude.{nat_le, replicate}
use Rattle.std.proofs.lemmas.Bool.{leb-true, leb-false}
use Rattle.std.proofs.lemmas.List.{length-replicate}
use Rattle.command_input.specs.Input.{Covered, EveryTextIsAnInput, Given, Input, InputsAgree, IsGiven, IsSpelled, IsSpelledBy, ReadsCalendar, ReadsCovering, Wanted, a_calendar, a_covering, a_set, an_order, calendar, covering, limit_of, nothing, order, read, set, too_long, unread}
use Rattle.command_input.specs.Lines.{behind_line, first_line}
use Rattle.command_input.specs.Taken.{IsRefusalOf, IsTakenAs, Refusing}
use Rattle.ical_text.proofs.LawLemmas.{agree, exact}
use Rattle.ical_text.specs.Laws.{Reads}
use Rattle.ical_text.specs.Lines.{joined_lines}
use Rattle.ical_text.specs.Reading.{reading}
use Rattle.ical_text.specs.declared.event.Event.{Event}
use Rattle.ical_text.specs.declared.fault.IcalFault.{IcalFault}
use Rattle.order_reader.proofs.ReadLaws.{every_text_is_read_or_refused, order_readings_agree, some_answer}
use Rattle.order_reader.specs.Reads.{ReadsOrder}
use Rattle.order_member.specs.declared.fault.OrderFault.{OrderFault}
use Rattle.order_rule.specs.Asked.{Asked}
use Rattle.order_text.proofs.LineLaws.{line_readings_agree}
use Rattle.order_text.specs.LineReading.{line_order_in}
use Rattle.order_text.specs.LineReading.{ReadsLine}
use Rattle.outcome.specs.Endings.{IsRefusedBy}
use Rattle.outcome.specs.Streams.{Stream}
use Rattle.outcome.specs.declared.ending.Ending.{Ending}
use Rattle.outcome.specs.declared.ending.Ending.TheVariants.{Plain, Refused}
use Rattle.outcome.specs.declared.status.Status.{Status}
use Rattle.outcome.specs.declared.status.Status.TheVariants.{NoMemory, ReadFault}
use Rattle.source_sink.specs.Outside.{Rose}
use Rattle.set_reader.proofs.SetLaws.{every_text_is_a_set_or_refused, set_readings_agree}
use Rattle.set_reader.specs.Asked.{SetAsked}
use Rattle.set_reader.specs.Reads.{ReadsSet}
use Rattle.source_sink.specs.Reading.{GivesAll, GivesWithin, IsLonger}

-- ---- one input, and always one

given_agree : {X : Type 0} (limit : ℕ) (Is : List ℕ → X → Type 0) (bytes : List ℕ) →
    ((x y : X) → Is bytes x → Is bytes y → x ≡ y) → (g h : Given X) → IsGiven limit Is bytes g → IsGiven limit Is bytes h → g ≡ h
given_agree limit Is bytes agree too_long too_long is other = refl
given_agree limit Is bytes agree too_long (read y) is other = absurd (omega (arith, is, other.0))
given_agree limit Is bytes agree (read x) too_long is other = absurd (omega (arith, other, is.0))
given_agree limit Is bytes agree (read x) (read y) is other = ap read (agree x y is.1 other.1)

-- coverings are read in one way
same_ok : (x y : Result Asked OrderFault) (a b : Asked) → x ≡ y → x ≡ Ok a → y ≡ Ok b → a ≡ b
same_ok x y a b same is other = cc

same_err : (x y : Result Asked OrderFault) (e f : OrderFault) → x ≡ y → x ≡ Err e → y ≡ Err f → e ≡ f
same_err x y e f same is other = cc

no_err : (x y : Result Asked OrderFault) (a : Asked) (e : OrderFault) → x ≡ y → x ≡ Ok a → y ≡ Err e → ⊥
no_err x y a e same is other = cc

same_covered : (c d : Covered) → c.order ≡ d.order → c.lines ≡ d.lines → c ≡ d
same_covered c d same rest = λ i. record { order = same i; lines = rest i }

coverings_agree : (bytes : List ℕ) (x y : Result Covered OrderFault) → ReadsCovering bytes x → ReadsCovering bytes y → x ≡ y
coverings_agree bytes (Ok c) (Ok d) is other =
    ap Ok (same_covered c d (same_ok _ _ c.order d.order (line_readings_agree (first_line bytes) (Ok c.order) (Ok d.order) is.0 other.0) refl refl)
    (is.1 ∙ sym other.1))
coverings_agree bytes (Ok c) (Err e) is other =
    absurd (no_err _ _ c.order e (line_readings_agree (first_line bytes) (Ok c.order) (Err e) is.0 other) refl refl)
coverings_agree bytes (Err e) (Ok d) is other =
    absurd (no_err _ _ d.order e (line_readings_agree (first_line bytes) (Ok d.order) (Err e) other.0 is) refl refl)
coverings_agree bytes (Err e) (Err f) is other =
    ap Err (same_err _ _ e f (line_readings_agree (first_line bytes) (Err e) (Err f) is other) refl refl)

pub inputs_agree : InputsAgree
inputs_agree nothing bytes unread unread is other = refl
inputs_agree nothing bytes unread (order h) is other = absurd other
inputs_agree nothing bytes unread (covering h) is other = absurd other
inputs_agree nothing bytes unread (calendar h) is other = absurd other
inputs_agree nothing bytes unread (set h) is other = absurd other
inputs_agree nothing bytes (order g) j is other = absurd is
inputs_agree nothing bytes (covering g) j is other = absurd is
inputs_agree nothing bytes (calendar g) j is other = absurd is
inputs_agree nothing bytes (set g) j is other = absurd is
inputs_agree an_order bytes unread j is other = absurd is
inputs_agree an_order bytes (covering g) j is other = absurd is
inputs_agree an_order bytes (calendar g) j is other = absurd is
inputs_agree an_order bytes (set g) j is other = absurd is
inputs_agree an_order bytes (order g) unread is other = absurd other
inputs_agree an_order bytes (order g) (covering h) is other = absurd other
inputs_agree an_order bytes (order g) (calendar h) is other = absurd other
inputs_agree an_order bytes (order g) (set h) is other = absurd other
inputs_agree an_order bytes (order g) (order h) is other =
    ap order (given_agree (limit_of an_order) ReadsOrder bytes (order_readings_agree bytes) g h is other)
inputs_agree a_covering bytes unread j is other = absurd is
inputs_agree a_covering bytes (order g) j is other = absurd is
inputs_agree a_covering bytes (calendar g) j is other = absurd is
inputs_agree a_covering bytes (set g) j is other = absurd is
inputs_agree a_covering bytes (covering g) unread is other = absurd other
inputs_agree a_covering bytes (covering g) (order h) is other = absurd other
inputs_agree a_covering bytes (covering g) (calendar h) is other = absurd other
inputs_agree a_covering bytes (covering g) (set h) is other = absurd other
inputs_agree a_covering bytes (covering g) (covering h) is other =
    ap covering (given_agree (limit_of a_covering) ReadsCovering bytes (coverings_agree bytes) g h is other)
inputs_agree a_calendar bytes unread j is other = absurd is
inputs_agree a_calendar bytes (order g) j is other = absurd is
inputs_agree a_calendar bytes (covering g) j is other = absurd is
inputs_agree a_calendar bytes (set g) j is other = absurd is
inputs_agree a_calendar bytes (calendar g) unread is other = absurd other
inputs_agree a_calendar bytes (calendar g) (order h) is other = absurd other
inputs_agree a_calendar bytes (calendar g) (covering h) is other = absurd other
inputs_agree a_calendar bytes (calendar g) (set h) is other = absurd other
inputs_agree a_calendar bytes (calendar g) (calendar h) is other =
    ap calendar (given_agree (limit_of a_calendar) ReadsCalendar bytes (agree (joined_lines bytes)) g h is other)
inputs_agree a_set bytes unread j is other = absurd is
inputs_agree a_set bytes (order g) j is other = absurd is
inputs_agree a_set bytes (covering g) j is other = absurd is
inputs_agree a_set bytes (calendar g) j is other = absurd is
inputs_agree a_set bytes (set g) unread is other = absurd other
inputs_agree a_set bytes (set g) (order h) is other = absurd other
inputs_agree a_set bytes (set g) (covering h) is other = absurd other
inputs_agree a_set bytes (set g) (calendar h) is other = absurd other
inputs_agree a_set bytes (set g) (set h) is other = ap set (given_agree (limit_of a_set) ReadsSet bytes (set_readings_agree bytes) g h is other)

some_given : {X : Type 0} (limit : ℕ) (Is : List ℕ → X → Type 0) (bytes : List ℕ) → (x : X) × Is bytes x →
    (g : Given X) × IsGiven limit Is bytes g
some_given {X = X} limit Is bytes (x, reads) = by (nat_le (length bytes) limit) refl where
  by : (t : Bool) → nat_le (length bytes) limit ≡ t → (g : Given X) × IsGiven limit Is bytes g
  by true few = (read x, (leb-true (length bytes) limit few, reads))
  by false many = (too_long, leb-false (length bytes) limit many)

pub some_order : (bytes : List ℕ) → (g : Given (Result Asked OrderFault)) × IsSpelled an_order bytes (order g)
some_order bytes = some_given (limit_of an_order) ReadsOrder bytes (every_text_is_read_or_refused bytes)

some_covered : (bytes : List ℕ) → (x : Result Asked OrderFault) × ReadsLine (first_line bytes) x → (y : Result Covered OrderFault) × ReadsCovering bytes y
some_covered bytes (Ok o, is) = (Ok (record { order = o; lines = behind_line bytes }), (is, refl))
some_covered bytes (Err fault, is) = (Err fault, is)

pub some_covering : (bytes : List ℕ) → (g : Given (Result Covered OrderFault)) × IsSpelled a_covering bytes (covering g)
some_covering bytes =
    some_given (limit_of a_covering) ReadsCovering bytes (some_covered bytes (some_answer line_order_in (first_line bytes)))

pub some_calendar : (bytes : List ℕ) → (g : Given (Result (List Event) IcalFault)) × IsSpelled a_calendar bytes (calendar g)
some_calendar bytes =
    some_given (limit_of a_calendar) ReadsCalendar bytes (reading (joined_lines bytes), exact (joined_lines bytes))

pub some_set : (bytes : List ℕ) → (g : Given (Result SetAsked OrderFault)) × IsSpelled a_set bytes (set g)
some_set bytes = some_given (limit_of a_set) ReadsSet bytes (every_text_is_a_set_or_refused bytes)

-- what the reader answered
pub read_as : (bytes slice : List ℕ) (x : Result (List Event) IcalFault) → slice ≡ bytes → reading (joined_lines slice) ≡ x → ReadsCalendar bytes x
read_as bytes slice x same is =
    subst (Reads (joined_lines bytes)) (ap (λ s. reading (joined_lines s)) (sym same) ∙ is) (exact (joined_lines bytes))

-- all bytes are an input
pub every_text_is_an_input : EveryTextIsAnInput
every_text_is_an_input nothing bytes = (unread, tt)
every_text_is_an_input an_order bytes = let (g, is) = some_order bytes in (order g, is)
every_text_is_an_input a_covering bytes = let (g, is) = some_covering bytes in (covering g, is)
every_text_is_an_input a_calendar bytes = let (g, is) = some_calendar bytes in (calendar g, is)
every_text_is_an_input a_set bytes = let (g, is) = some_set bytes in (set g, is)

pub told_by : (left : Option (List ℕ)) → (bytes : List ℕ) × ((x : List ℕ) → left ≡ Some x → x ≡ bytes)
told_by None = ([], λ x told. absurd cc)
told_by (Some bytes) = (bytes, λ x told. cc)

-- more bytes than the limit, those left where they are told
long_by : (left : Option (List ℕ)) (limit : ℕ) → IsLonger left limit →
    (bytes : List ℕ) × ((x : List ℕ) → left ≡ Some x → x ≡ bytes) × (limit < length bytes)
long_by None limit longer =
    let zeros : List ℕ = replicate (limit + 1) 0 in
    let count : length zeros ≡ limit + 1 = length-replicate (limit + 1) 0 in
    (zeros, λ x told. absurd cc, omega (arith, count))
long_by (Some bytes) limit longer = (bytes, λ x told. cc, longer bytes refl)

-- ---- what was read of one kind of input

module _ {X A F : Type 0} (wanted : Wanted) (input : Given (Result A F) → Input) (how : Refusing F) (view : X → A)
    (some : (bytes : List ℕ) → (g : Given (Result A F)) × IsSpelled wanted bytes (input g)) where
  -- a source has one, whatever it tells
  some_by : (left : Option (List ℕ)) → (g : Given (Result A F)) × IsSpelledBy wanted left (input g)
  some_by left =
      let (bytes, told) = told_by left in
      let (g, is) = some bytes in
      (g, record { bytes = bytes; told = told; spelled = is })

  -- a fault, or want of memory
  pub read_not : (source source' : Stream) (status : Status) → GivesWithin (limit_of wanted) source.bytes source'.bytes →
      source.faults ≤ source'.faults → (status ≡ NoMemory) ⊎ ((status ≡ ReadFault) × Rose source.faults source'.faults) →
      IsTakenAs wanted input how view source source' (Err (Plain status))
  read_not source source' status within later cause =
      let (g, spelled) = some_by source.bytes in
      record { given = g; spelled = spelled; case = cause; within = within; later = later }

  -- the whole
  pub read_whole : (source source' : Stream) (bytes : List ℕ) (x : X) → GivesWithin (limit_of wanted) source.bytes source'.bytes →
      source.faults ≤ source'.faults → GivesAll source.bytes source'.bytes bytes → IsSpelled wanted bytes (input (read (Ok (view x)))) →
      IsTakenAs wanted input how view source source' (Ok x)
  read_whole source source' bytes x within later gives spelled = record {
    given = read (Ok (view x));
    spelled = record { bytes = bytes; told = λ x told. (gives x told).1; spelled = spelled };
    case = (refl, λ x told. (gives x told).0);
    within = within;
    later = later;
  }

  -- more bytes than there may be
  pub read_long : (source source' : Stream) (ending : Ending) →
      ((bytes : List ℕ) → limit_of wanted < length bytes → IsSpelled wanted bytes (input too_long)) →
      GivesWithin (limit_of wanted) source.bytes source'.bytes → source.faults ≤ source'.faults →
      IsLonger source.bytes (limit_of wanted) → IsRefusedBy how.status how.long ending → IsTakenAs wanted input how view source source' (Err ending)
  read_long source source' (Plain status) spelled within later longer is = read_not source source' status within later (inl is)
  read_long source source' (Refused status line) spelled within later longer is =
      let (bytes, told, long) = long_by source.bytes (limit_of wanted) longer in
      record {
        given = too_long;
        spelled = record { bytes = bytes; told = told; spelled = spelled bytes long };
        case = is;
        within = within;
        later = later;
      }

  -- what is none
  pub read_refused : (source source' : Stream) (bytes : List ℕ) (fault : F) (ending : Ending) →
      GivesWithin (limit_of wanted) source.bytes source'.bytes → source.faults ≤ source'.faults →
      GivesAll source.bytes source'.bytes bytes →
      (fault ≡ how.no_memory) ⊎ IsSpelled wanted bytes (input (read (Err fault))) → IsRefusalOf how fault ending →
      IsTakenAs wanted input how view source source' (Err ending)
  read_refused source source' bytes fault (Plain status) within later gives spelled is =
      read_not source source' status within later (inl is)
  read_refused source source' bytes fault (Refused status line) within later gives (inl memory) is = absurd (is.2 memory)
  read_refused source source' bytes fault (Refused status line) within later gives (inr spelled) is = record {
    given = read (Err fault);
    spelled = record { bytes = bytes; told = λ x told. (gives x told).1; spelled = spelled };
    case = (is.0, is.1, λ x told. (gives x told).0);
    within = within;
    later = later;
  }
