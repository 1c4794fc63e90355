use Rattle.std.proofs.Common.{◌≡◌, drop}
use Rattle.border_check.specs.Views.{box_of}
use Rattle.border_check.specs.Shares.{parts_within}
use Rattle.border_check.proofs.Growing.{joined}
use Rattle.border_check.proofs.shares.Share.within.Given as goal

abbrev pub invariant-loop-part : goal.invariant-loop-part
invariant-loop-part l =
    joined l.share (parts_within (box_of l.outer) (box_of l.inner) (drop l.part-index l.part-items) l.self.inside)
    ≡ parts_within (box_of l.outer) (box_of l.inner) l.part-items l.self.inside
