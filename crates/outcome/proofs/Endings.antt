-- How the pieces of a run make its answer.
use Rattle.std.proofs.Common.{◌≡◌, ℕ, Global, List, [], Ok, Err, Result, refl, subst, sym, Bool, true, false, cond}
use Rattle.std.specs.Prelude.{◌==◌, IfOk, String, string_bytes}
use Rattle.source_sink.specs.Outside.{Rose}
use Rattle.outcome.proofs.Streams.{adds_nothing, adds_some_of}
use Rattle.outcome.specs.Answer.{Answer, finished, line_of, line_of_status, refusal}
use Rattle.outcome.specs.Endings.{EndsBy, IsRefusedBy, ending_of}
use Rattle.outcome.specs.Ends.{EndsAs}
use Rattle.outcome.specs.Streams.{Stream}
use Rattle.outcome.specs.Writing.{Writes}
use Rattle.outcome.specs.declared.ending.Ending.{Ending}
use Rattle.outcome.specs.declared.ending.Ending.TheVariants.{Plain, Refused}
use Rattle.outcome.specs.declared.status.Status.{Status}
use Rattle.outcome.specs.declared.status.Status.TheVariants.{Done, Open, Usage, OrderRefused, ReadFault, WriteFault, NoMemory, CoverRefused, IcalRefused}
use Rattle.outcome.specs.declared.stop.Stop.{Stop}
use Rattle.outcome.specs.declared.stop.Stop.TheVariants.{NoMemory as StopNoMemory, WriteFault as StopWriteFault}

-- memory was not found before anything was written
pub given_up : (a : Answer) (source source' out : Stream) → EndsBy a (Plain NoMemory) source source' out out
unfolding EndsAs line_of line_of_status
given_up a source source' out = record { ends = adds_some_of out.bytes a.text; line = refl }

-- a read failed
pub unread : (a : Answer) (source source' out : Stream) → Rose source.faults source'.faults →
    EndsBy a (Plain ReadFault) source source' out out
unfolding EndsAs line_of line_of_status
unread a source source' out rose = record { ends = (rose, adds_nothing out.bytes); line = refl }

-- the statuses of words and inputs that are refused
abbrev pub IsRefusal : Status → Type 0
IsRefusal Usage = Unit {0}
IsRefusal OrderRefused = Unit {0}
IsRefusal CoverRefused = Unit {0}
IsRefusal IcalRefused = Unit {0}
IsRefusal status = ⊥

said : (which : Status) → IsRefusal which → (line : List ℕ) (text : String Global) (source source' out : Stream) → string_bytes text ≡ line →
    EndsBy (refusal which line) (Refused which text) source source' out out
unfolding EndsAs line_of
said Usage is line text source source' out same = record { ends = (refl, adds_nothing out.bytes); line = same }
said OrderRefused is line text source source' out same = record { ends = (refl, adds_nothing out.bytes); line = same }
said CoverRefused is line text source source' out same = record { ends = (refl, adds_nothing out.bytes); line = same }
said IcalRefused is line text source source' out same = record { ends = (refl, adds_nothing out.bytes); line = same }
said Done is line text source source' out same = absurd is
said Open is line text source source' out same = absurd is
said ReadFault is line text source source' out same = absurd is
said WriteFault is line text source source' out same = absurd is
said NoMemory is line text source source' out same = absurd is

-- words or an input are refused
pub refused : (which : Status) → IsRefusal which → (line : List ℕ) (ending : Ending) (source source' out : Stream) → IsRefusedBy which line ending →
    EndsBy (refusal which line) ending source source' out out
refused which is line (Plain status) source source' out is_memory =
    let P : Status → Type 0 = λ s. EndsBy (refusal which line) (Plain s) source source' out out in
    subst P (sym is_memory) (given_up (refusal which line) source source' out)
refused which is line (Refused status text) source source' out same =
    let P : Status → Type 0 = λ s. EndsBy (refusal which line) (Refused s text) source source' out out in
    subst P (sym same.0) (said which is line text source source' out same.1)

-- the text was written, or was not written whole
pub text_ending : (text : List ℕ) (undecided : ℕ) (r : Result ℕ Stop) (source source' out out' : Stream) →
    Writes {X = ℕ} text r out.faults out'.faults out.bytes out'.bytes → IfOk r (λ count. count ≡ undecided) →
    EndsBy (finished undecided text) (ending_of r) source source' out out'
unfolding EndsAs line_of line_of_status
text_ending text undecided (Ok count) source source' out out' w same = rw same (by (undecided == 0)) where
  by : (t : Bool) → EndsBy (record { status = cond t Done Open; text = text; line = [] }) (Plain (cond t Done Open)) source source' out out'
  by true = record { ends = (refl, w.whole); line = refl }
  by false = record { ends = (refl, w.whole); line = refl }
text_ending text undecided (Err StopNoMemory) source source' out out' w same = record { ends = w.some refl; line = refl }
text_ending text undecided (Err StopWriteFault) source source' out out' w same = record { ends = w.part refl; line = refl }
