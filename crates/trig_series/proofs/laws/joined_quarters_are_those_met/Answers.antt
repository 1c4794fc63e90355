use Rattle.trig_series.proofs.ExactQuarters.{met_between, between_met}
use Rattle.trig_series.proofs.QuarterLaws.{meets_between, first_no_later, last_no_earlier}
use Rattle.trig_series.proofs.laws.joined_quarters_are_those_met.Goals as goal

pub returns : goal.returns
returns c = record {
  of_enclosure = λ range q. ((λ h. met_between range q h.0 h.1), between_met range q);
  of_range = λ range q. ((λ h. meets_between range q h.0 h.1), (λ m. (first_no_later range.lo q m.ends_in_time, last_no_earlier range.hi q m.begins_in_time)));
}
