use Rattle.timetable.proofs.LawLemmas.{finished_runs_wrote_the_answer}
use Rattle.timetable.proofs.laws.finished_runs_wrote_the_answer.Goals as goal

pub returns : goal.returns
returns c = finished_runs_wrote_the_answer
