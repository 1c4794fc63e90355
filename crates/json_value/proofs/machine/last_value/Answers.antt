use Rattle.std.proofs.Common.{◌∙◌, ap, []}
use Rattle.json_value.specs.Machine.{no_numeral, result_ended}
use Rattle.json_value.specs.Seen.{frames_of}
use Rattle.json_value.proofs.machine.last_value.Goals as goal

pub returns : goal.returns
returns c = c.ended_value.ensures no_numeral [] (frames_of c.ended.new.frames.items) ∙ ap result_ended (c.in_ok-next.ensures no_numeral [])
