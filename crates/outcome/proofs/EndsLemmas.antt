-- What is known of a run by how it ended.
use Rattle.std.proofs.Common.{◌≡◌, ℕ, zero, suc, [], Bool, true, false, cond, ◌⊎◌, inl, inr, refl, arith}
use Rattle.std.specs.Prelude.{◌≢◌, ◌==◌}
use Rattle.std.proofs.lemmas.Bool.{eqb-true}
use Rattle.source_sink.specs.Outside.{Rose, Adds, AddsPart, AddsSome}
use Rattle.outcome.specs.Answer.{Answer, status_of_count}
use Rattle.outcome.specs.Ends.{EndsAs}
use Rattle.outcome.specs.Streams.{Stream}
use Rattle.outcome.specs.declared.status.Status.{Status}
use Rattle.outcome.specs.declared.status.Status.TheVariants.{Done, Open, Usage, OrderRefused, ReadFault, WriteFault, NoMemory, CoverRefused, IcalRefused}

-- ---- the ways in which a run ends

-- the answer's status with its whole text
pub record IsWhole (a : Answer) (status : Status) (out out' : Stream) : Type 0 where
  pub is : status ≡ a.status
  pub added : Adds out.bytes out'.bytes a.text

-- a read fault
pub record IsUnread (status : Status) (source source' out out' : Stream) : Type 0 where
  pub is : status ≡ ReadFault
  pub rose : Rose source.faults source'.faults
  pub added : Adds out.bytes out'.bytes []

-- a write fault
pub record IsCut (a : Answer) (status : Status) (out out' : Stream) : Type 0 where
  pub is : status ≡ WriteFault
  pub rose : Rose out.faults out'.faults
  pub added : AddsPart out.bytes out'.bytes a.text

-- want of memory
pub record IsDry (a : Answer) (status : Status) (out out' : Stream) : Type 0 where
  pub is : status ≡ NoMemory
  pub added : AddsSome out.bytes out'.bytes a.text

abbrev pub Ways : Answer → Status → Stream → Stream → Stream → Stream → Type 0
Ways a status source source' out out' =
    IsWhole a status out out' ⊎ (IsUnread status source source' out out' ⊎ (IsCut a status out out' ⊎ IsDry a status out out'))

pub ways : (a : Answer) (status : Status) (source source' out out' : Stream) → EndsAs a status source source' out out' →
    Ways a status source source' out out'
unfolding EndsAs
ways a Done source source' out out' ends = inl (record { is = ends.0; added = ends.1 })
ways a Open source source' out out' ends = inl (record { is = ends.0; added = ends.1 })
ways a Usage source source' out out' ends = inl (record { is = ends.0; added = ends.1 })
ways a OrderRefused source source' out out' ends = inl (record { is = ends.0; added = ends.1 })
ways a CoverRefused source source' out out' ends = inl (record { is = ends.0; added = ends.1 })
ways a IcalRefused source source' out out' ends = inl (record { is = ends.0; added = ends.1 })
ways a ReadFault source source' out out' ends = inr (inl (record { is = refl; rose = ends.0; added = ends.1 }))
ways a WriteFault source source' out out' ends = inr (inr (inl (record { is = refl; rose = ends.0; added = ends.1 })))
ways a NoMemory source source' out out' ends = inr (inr (inr (record { is = refl; added = ends })))

-- ---- texts that are none

pub none_added : (old new : Stream) → AddsSome old.bytes new.bytes [] → Adds old.bytes new.bytes []
none_added old new (zero, added) = added
none_added old new (suc n, added) = added

-- there is no part of no text
pub no_part : (old new : Stream) → AddsPart old.bytes new.bytes [] → ⊥
no_part old new (n, less, part) = omega (arith, less)

-- ---- counts of what is undecided

pub done_none : (n : ℕ) → Done ≡ status_of_count n → n ≡ 0
done_none n = by (n == 0) refl where
  by : (t : Bool) → (n == 0) ≡ t → Done ≡ cond t Done Open → n ≡ 0
  by true zero_it same = eqb-true n 0 zero_it
  by false some same = cc

pub open_some : (n : ℕ) → Open ≡ status_of_count n → n ≢ 0
open_some zero same none = cc
open_some (suc n) same none = omega (arith, none)

pub done_or_open : (n : ℕ) → (status_of_count n ≡ Done) ⊎ (status_of_count n ≡ Open)
done_or_open n = by (n == 0) where
  by : (t : Bool) → (cond t Done Open ≡ Done) ⊎ (cond t Done Open ≡ Open)
  by true = inl refl
  by false = inr refl
