use Rattle.std.proofs.Common.{◌≡◌, ◌-◌, ◌<◌, ◌≤◌, ◌^◌, drop, length}
use Rattle.covering_check.specs.Left.{most_digits}
use Rattle.covering_check.specs.Marks.{marks_from}
use Rattle.covering_check.proofs.letters.run_at.Given as goal

-- the letters of what is left, behind the digits so far, are those from the start
abbrev pub invariant-loop-at : goal.invariant-loop-at
invariant-loop-at l = record {
  read : marks_from (most_digits l.fn.form) l.digits l.count l.at (drop l.at l.fn.text) ≡ marks_from (most_digits l.fn.form) 0 0 l.fn.from (drop l.fn.from l.fn.text);
  bound : l.count < 10 ^ l.digits;
  few : l.digits ≤ most_digits l.fn.form;
  some : 0 < l.digits → 0 < l.count;
}

abbrev pub decreases-loop-at : goal.decreases-loop-at
decreases-loop-at l = length l.fn.text - l.at
