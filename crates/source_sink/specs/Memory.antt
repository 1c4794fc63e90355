-- Sources and sinks in memory whose calls fail by a plan.
use Rattle.std.specs.Prelude.{ℕ, ◌+◌, ◌-◌, ◌^◌, min, Bool, ◌||◌, ◌==◌, if◌then◌else◌, List, ◌++◌, length, take, drop}
use Rattle.std.specs.List.{list_any}
use Rattle.source_sink.specs.declared.reading.Got.{Got}
use Rattle.source_sink.specs.declared.reading.Got.TheVariants.{Bytes, End}
use Rattle.source_sink.specs.declared.reading.Got.TheVariants.{Failed as ReadFailed}
use Rattle.source_sink.specs.declared.writing.Put.{Put}
use Rattle.source_sink.specs.declared.writing.Put.TheVariants.{Took}
use Rattle.source_sink.specs.declared.writing.Put.TheVariants.{Failed as WriteFailed}

-- one more, but for a counter that stands at its last value
abbrev pub one_more : ℕ → ℕ
one_more count = min (count + 1) (2 ^ 64 - 1)

-- the calls made so far, the numbers of those that are to fail, counted from 1, the most bytes that one call moves,
-- and the faults counted
pub record Plan : Type 0 where
  pub calls : ℕ
  pub failing : List ℕ
  pub piece : ℕ
  pub faults : ℕ

-- the next call is to fail
abbrev pub is_due : Plan → Bool
is_due p = list_any (λ n. n == one_more p.calls) p.failing

-- a call was made, which failed or not
abbrev pub after_call : Plan → Bool → Plan
after_call p fails = record p { calls = one_more p.calls; faults = (if fails then one_more p.faults else p.faults) }

-- a source: the bytes left, and its plan
pub record MemLeft : Type 0 where
  pub left : List ℕ
  pub plan : Plan

-- how many bytes a call gives into a buffer of this length if it doesn't fail
abbrev pub count_given : MemLeft → ℕ → ℕ
count_given s room = min (min room s.plan.piece) (length s.left)

abbrev pub got_of_count : ℕ → Got
got_of_count count = if count == 0 then End else Bytes count

abbrev pub got_of : MemLeft → ℕ → Got
got_of s room = if is_due s.plan then ReadFailed else got_of_count (count_given s room)

abbrev pub after_read : MemLeft → ℕ → MemLeft
after_read s room = record {
  left = (if is_due s.plan then s.left else drop (count_given s room) s.left);
  plan = after_call s.plan (is_due s.plan);
}

-- a sink: the bytes held, the most that it has room for, and its plan
pub record MemHeld : Type 0 where
  pub bytes : List ℕ
  pub capacity : ℕ
  pub plan : Plan

-- how many bytes of a piece of this length a call takes if it doesn't fail
abbrev pub count_taken : MemHeld → ℕ → ℕ
count_taken s wanted = min (min wanted s.plan.piece) (s.capacity - length s.bytes)

-- a write fails by the plan, and where the sink is full
abbrev pub write_fails : MemHeld → ℕ → Bool
write_fails s wanted = is_due s.plan || (count_taken s wanted == 0)

abbrev pub put_of : MemHeld → ℕ → Put
put_of s wanted = if write_fails s wanted then WriteFailed else Took (count_taken s wanted)

abbrev pub after_write : MemHeld → List ℕ → MemHeld
after_write s piece = record s {
  bytes = (if write_fails s (length piece) then s.bytes else s.bytes ++ take (count_taken s (length piece)) piece);
  plan = after_call s.plan (write_fails s (length piece));
}
