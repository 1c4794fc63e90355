-- How a run of the program ended, on every stream: the one clause of a top call.
use Rattle.command_input.specs.Answers.{Leaves}
use Rattle.command_input.specs.Input.{Input, IsSpelledBy}
use Rattle.outcome.specs.Answer.{line_of}
use Rattle.outcome.specs.Ends.{EndsAs, Reports}
use Rattle.outcome.specs.Streams.{Streams}
use Rattle.outcome.specs.declared.status.Status.{Status}
use Rattle.timetable.specs.Answer.{answer_to, wanted_by}
use Rattle.command_words.specs.declared.command.Command.{Command}

pub record Ended (command : Command) (status : Status) (before after : Streams) : Type 0 where
  -- the input, as the source's bytes spell it where it told them
  pub input : Input
  pub spelled : IsSpelledBy (wanted_by command) before.source.bytes input
  -- the answer's status, with its text added to the output; or a fault that is named, and counted where it is one of a stream
  pub ends : EndsAs (answer_to command input) status before.source after.source before.out after.out
  -- the answer's line, or the fault's, is added to the error stream
  pub reports : Reports (line_of (answer_to command input) status) before.err after.err
  -- what the source has left
  pub leaves : Leaves (wanted_by command) input status before.source after.source
