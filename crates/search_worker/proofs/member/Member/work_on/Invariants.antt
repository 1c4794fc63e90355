use Rattle.std.proofs.Common.{[]}
use Rattle.search_worker.specs.Workers.{HasInHand, IsSameMember}
use Rattle.search_worker.proofs.member.Member.work_on.Given as goal

abbrev pub invariant-loop : goal.invariant-loop
invariant-loop g l = record {
  next : (goal.iterator-loop g).can_next l.iterator';
  finite : (goal.iterator-loop g).is_finite l.iterator';
  same : IsSameMember l.bound l.initial.self l.self;
  owes : HasInHand g.C.Case.case (g.S.Store.keeps g.C.Case.case.problems) l.initial.self l.self [];
}
