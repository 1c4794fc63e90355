-- What is counted over std's readers and writers: each error, and a write that takes nothing.
use Rattle.std.specs.Prelude.{ℕ}
use Rattle.source_sink.specs.Memory.{one_more}
use Rattle.source_sink.specs.declared.reading.Got.{Got}
use Rattle.source_sink.specs.declared.reading.Got.TheVariants.{Bytes, End}
use Rattle.source_sink.specs.declared.reading.Got.TheVariants.{Failed as ReadFailed}
use Rattle.source_sink.specs.declared.writing.Put.{Put}
use Rattle.source_sink.specs.declared.writing.Put.TheVariants.{Took}
use Rattle.source_sink.specs.declared.writing.Put.TheVariants.{Failed as WriteFailed}

-- the count of a source after this answer
abbrev pub count_after_read : ℕ → Got → ℕ
count_after_read count (Bytes n) = count
count_after_read count End = count
count_after_read count ReadFailed = one_more count

-- the count of a sink after this answer
abbrev pub count_after_write : ℕ → Put → ℕ
count_after_write count (Took n) = count
count_after_write count WriteFailed = one_more count
